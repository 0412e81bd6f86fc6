-- A WRITE's stores of a run of whole blocks.
use Rattle.std.proofs.Common.{◌≡◌, ℕ, zero, suc, ◌+◌, ◌-◌, ◌*◌, ◌<◌, ◌≤◌, true, false, ◌==◌, cond, List, get_or, drop, refl, sym, ap, ◌∙◌, arith}
use Rattle.std.specs.Prelude.{Some}
use Rattle.std.proofs.Math.Nat.{mul-le-mul_right}
use Rattle.std.proofs.lemmas.Bool.{le-leb, lt-ltb}
use Rattle.std.proofs.lemmas.List.{get_or-take, get_or-drop}
use Rattle.qs_part.specs.declared.stripe.Side.TheVariants.{Head, Tail}
use Rattle.qs_part.specs.declared.stripe.StripeReply.TheVariants.{Done, Fault, HeldBy}
use Rattle.qs_model.specs.Requests.{Client, Pads, Req, Step, In, ToStore, body_at, covers, edge, pad, span_of, stored, store_failed}
use Rattle.qs_request.specs.declared.todo.PartReply.TheVariants.{Stripe as ByStripe}
use Rattle.qs_request.specs.declared.whole_run.WholeRun.{WholeRun}
use Rattle.qs_request.specs.Table.{IsMerged, followed}
use Rattle.qs_request.specs.WholeRuns.{IsWholeRun, IsWritingRun, behind_stores, run_block}
use Rattle.qs_request.proofs.WholeReads.{isnt-last, run-ends}

-- a place of the span is covered
pub covered : (c : Client) (x : ℕ) → (span_of c).lo ≤ x → x < (span_of c).hi → covers c x ≡ true
covered c x low high = rw (le-leb (span_of c).lo x low, lt-ltb x (span_of c).hi high) refl

-- a block that the span covers wholly gets the body's bytes
pub whole-merged : (A : ℕ) (c : Client) (p : Pads) (run : WholeRun) (i : ℕ) → IsWholeRun A (span_of c) run → i < run.n
    → IsMerged A c p (run.b + i) (run_block A run c.body i)
whole-merged A c p run i is below x small =
    let ends = run-ends A run.b run.n i below in
    let at : (run.b + i) * A + x - (span_of c).lo ≡ run.at + i * A + x = omega (arith, is.place) in
    let y = (run.b + i) * A + x in
    get_or-take A (drop (run.at + i * A) c.body) x 0 small ∙ get_or-drop (run.at + i * A) c.body x 0
    ∙ sym (ap (λ n. get_or c.body n 0) at)
    ∙ sym (ap (λ t. cond t (body_at c y) (get_or (pad p (cond (run.b + i == edge A c Head) Head Tail)) x 0))
    (covered c y (omega (arith, is.place)) (omega (arith, small, ends, is.inside))))

stored-more : (A : ℕ) (c : Client) (b : ℕ) → (b == edge A c Tail) ≡ false → stored A c b ≡ ToStore (b + 1)
unfolding stored
stored-more A c b test = rw test refl

module _ (A : ℕ) (q : Req) (run : WholeRun) (buf : List ℕ) (some : 0 < A) (is : IsWritingRun A q run) where
  abbrev at_store : ℕ → Req
  at_store i = record q { stage = In run.k (ToStore (run.b + i)) }

  some-span : (span_of q.client).lo < (span_of q.client).hi
  some-span =
      let one : (run.b + 1) * A ≤ (run.b + run.n) * A = mul-le-mul_right A (omega (arith, is.whole_run.some)) in
      omega (arith, one, is.whole_run.inside, is.whole_run.place, some)

  -- before the last block
  pub stores-before : (i : ℕ) → i < run.n → behind_stores A run buf q i ≡ at_store i
  stores-before zero below =
      let b : run.b ≡ run.b + 0 = omega arith in
      ap (λ s. record q { stage = s }) (is.stage ∙ ap (λ n. In run.k (ToStore n)) b)
  stores-before (suc i) below =
      let earlier : i < run.n = omega (arith, below) in
      let ends = run-ends A run.b run.n (i + 1) (omega (arith, below)) in
      let more : (run.b + i) * A + A < (span_of q.client).hi = omega (arith, ends, is.whole_run.inside, some) in
      let here : run.b + i + 1 ≡ run.b + suc i = omega arith in
      ap (λ r. followed A r (ByStripe (Done (run_block A run buf i)))) (stores-before i earlier)
      ∙ ap (λ (s : Step). record q { stage = In run.k s })
      (stored-more A q.client (run.b + i) (isnt-last A q.client (run.b + i) some some-span more) ∙ ap (λ n. ToStore n) here)

  -- behind the block of number m: one that was done, one that the disk refused, and one that another place holds
  pub store-done : (m : ℕ) → m < run.n → behind_stores A run buf q (suc m) ≡ record q { stage = In run.k (stored A q.client (run.b + m)) }
  store-done m below = ap (λ r. followed A r (ByStripe (Done (run_block A run buf m)))) (stores-before m below)

  pub stores-fail : (m : ℕ) → m < run.n → (back : List ℕ)
      → followed A (behind_stores A run buf q m) (ByStripe (Fault (Some back))) ≡ record q { stage = In run.k (store_failed A q.client (run.b + m)) }
  stores-fail m below back = ap (λ r. followed A r (ByStripe (Fault (Some back)))) (stores-before m below)

  pub stores-held : (m : ℕ) → m < run.n → (j : ℕ) (back : List ℕ)
      → followed A (behind_stores A run buf q m) (ByStripe (HeldBy j back)) ≡ at_store m
  stores-held m below j back = ap (λ r. followed A r (ByStripe (HeldBy j back))) (stores-before m below)
