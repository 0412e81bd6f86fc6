-- A READ's loads of a run of whole blocks.
use Rattle.std.proofs.Common.{◌≡◌, ◌≢◌, ℕ, zero, suc, ◌+◌, ◌-◌, ◌*◌, max, min, ◌<◌, ◌≤◌, Bool, true, false, ◌==◌, cond, List, ◌++◌, length, take, drop, refl, sym, ap, ◌∙◌, inl, inr, arith, true≢false}
use Rattle.std.specs.Prelude.{Some}
use Rattle.std.proofs.Math.Nat.{mul-le-mul_right}
use Rattle.std.proofs.Math.Seq.{take-add}
use Rattle.std.proofs.lemmas.Bool.{eq-eqb, ne_eqb}
use Rattle.std.proofs.lemmas.Bool.Decides.{eqb_tells}
use Rattle.std.proofs.lemmas.List.{length-drop, length-take-le, take_all}
use Rattle.qs_bytes.specs.declared.ask.Errno.TheVariants.{Io}
use Rattle.qs_bytes.specs.declared.ask.Verdict.TheVariants.{Got, Refused}
use Rattle.qs_part.specs.declared.stripe.Side.TheVariants.{Tail}
use Rattle.qs_part.specs.declared.stripe.StripeReply.TheVariants.{Filled, Fault}
use Rattle.qs_model.specs.Requests.{Client, Req, Step, In, ToLoad, ToEnd, edge, loaded, piece, span_of}
use Rattle.qs_model.proofs.Geometry.{tail_low, tail_high}
use Rattle.qs_request.specs.declared.todo.PartReply.TheVariants.{Stripe as ByStripe}
use Rattle.qs_request.specs.declared.whole_run.WholeRun.{WholeRun}
use Rattle.qs_request.specs.Table.{followed}
use Rattle.qs_request.specs.WholeRuns.{IsReadingRun, behind_loads, run_block, next_read}

-- block i of a run begins where the span has it, and ends in the span
pub run-ends : (A b n i : ℕ) → i < n → (b + i) * A + A ≤ (b + n) * A
run-ends A b n i below =
    let next : (b + i + 1) * A ≤ (b + n) * A = mul-le-mul_right A (omega (arith, below)) in
    omega (arith, next)

-- a block that the span covers wholly is its own piece
whole-piece : (A : ℕ) (c : Client) (b : ℕ) (bytes : List ℕ) → (span_of c).lo ≤ b * A → b * A + A ≤ (span_of c).hi → length bytes ≡ A
    → piece A c b bytes ≡ bytes
whole-piece A c b bytes low high whole =
    let from : max (span_of c).lo (b * A) - b * A ≡ 0 = omega (arith, low) in
    let count : min (span_of c).hi (b * A + A) - max (span_of c).lo (b * A) ≡ A = omega (arith, low, high) in
    rw (from, count) (take_all A bytes (omega (arith, whole)))

-- what follows a block that was loaded
loaded-as : (A : ℕ) (c : Client) (b : ℕ) (got bytes : List ℕ) (t : Bool) → (b == edge A c Tail) ≡ t → piece A c b bytes ≡ bytes
    → loaded A c b got bytes ≡ cond t (ToEnd (Got (got ++ bytes))) (ToLoad (b + 1) (got ++ bytes))
unfolding loaded
loaded-as A c b got bytes t test same =
    ap (λ u. cond u (ToEnd (Got (got ++ piece A c b bytes))) (ToLoad (b + 1) (got ++ piece A c b bytes))) test
    ∙ ap (λ xs. cond t (ToEnd (Got (got ++ xs))) (ToLoad (b + 1) (got ++ xs))) same

-- the test for the last block
pub is-last : (A : ℕ) (c : Client) (b : ℕ) → 0 < A → (span_of c).lo < (span_of c).hi → (span_of c).hi ≡ b * A + A → (b == edge A c Tail) ≡ true
is-last A c b some there ends =
    let low = tail_low A c some there in
    let high = tail_high A c some there in
    let upper : edge A c Tail < b + 1 = under (edge A c Tail) (b + 1) (omega (arith, low, ends)) in
    let lower : b < edge A c Tail + 1 = under b (edge A c Tail + 1) (omega (arith, high, ends, some)) in
    eq-eqb b (edge A c Tail) (omega (arith, upper, lower))
  where
    under : (x y : ℕ) → x * A < y * A → x < y
    under x y less = let not : y ≤ x → ⊥ = λ le. let more : y * A ≤ x * A = mul-le-mul_right A le in omega (arith, more, less) in omega (arith, not)

pub isnt-last : (A : ℕ) (c : Client) (b : ℕ) → 0 < A → (span_of c).lo < (span_of c).hi → b * A + A < (span_of c).hi → (b == edge A c Tail) ≡ false
isnt-last A c b some there more =
    ne_eqb b (edge A c Tail) (λ e. let at : b * A ≡ edge A c Tail * A = ap (λ n. n * A) e in omega (arith, at, more, tail_high A c some there))

module _ (A : ℕ) (q : Req) (run : WholeRun) (buf : List ℕ) (some : 0 < A) (is : IsReadingRun A q run buf) where
  -- the READ behind i loads
  abbrev at_block : ℕ → Req
  at_block i = record q { stage = In run.k (ToLoad (run.b + i) (take (run.at + i * A) buf)) }

  there : (span_of q.client).lo < (span_of q.client).hi
  there =
      let one : (run.b + 1) * A ≤ (run.b + run.n) * A = mul-le-mul_right A (omega (arith, is.whole_run.some)) in
      omega (arith, one, is.whole_run.inside, is.whole_run.place, some)

  block-length : (i : ℕ) → i < run.n → length (run_block A run buf i) ≡ A
  block-length i below =
      let ends = run-ends A run.b run.n i below in
      length-take-le A (drop (run.at + i * A) buf) (omega (arith, ends, is.whole_run.inside, is.whole_run.place, is.whole, length-drop (run.at + i * A) buf))

  block-piece : (i : ℕ) → i < run.n → piece A q.client (run.b + i) (run_block A run buf i) ≡ run_block A run buf i
  block-piece i below =
      let ends = run-ends A run.b run.n i below in
      whole-piece A q.client (run.b + i) (run_block A run buf i) (omega (arith, is.whole_run.place)) (omega (arith, ends, is.whole_run.inside)) (block-length i below)

  front-more : (i : ℕ) → take (run.at + i * A) buf ++ run_block A run buf i ≡ take (run.at + (i + 1) * A) buf
  front-more i =
      let e : run.at + i * A + A ≡ run.at + (i + 1) * A = omega arith in
      sym (take-add (run.at + i * A) A buf) ∙ ap (λ n. take n buf) e

  -- one more load
  load-next : (i : ℕ) (t : Bool) → i < run.n → (run.b + i == edge A q.client Tail) ≡ t
      → followed A (at_block i) (ByStripe (Filled (run_block A run buf i)))
      ≡ record q { stage = In run.k (cond t (ToEnd (Got (take (run.at + (i + 1) * A) buf))) (ToLoad (run.b + i + 1) (take (run.at + (i + 1) * A) buf))) }
  load-next i t below test =
      ap (λ (s : Step). record q { stage = In run.k s })
      (loaded-as A q.client (run.b + i) (take (run.at + i * A) buf) (run_block A run buf i) t test (block-piece i below)
      ∙ ap (λ xs. cond t (ToEnd (Got xs)) (ToLoad (run.b + i + 1) xs)) (front-more i))

  first-block : q ≡ at_block 0
  first-block =
      let b : run.b ≡ run.b + 0 = omega arith in
      let at : run.at ≡ run.at + 0 * A = omega arith in
      ap (λ s. record q { stage = s }) (is.stage ∙ ap (λ n. In run.k (ToLoad n (take run.at buf))) b ∙ ap (λ n. In run.k (ToLoad (run.b + 0) (take n buf))) at)

  -- before the last block
  pub loads-before : (i : ℕ) → i < run.n → behind_loads A run buf q i ≡ at_block i
  loads-before zero below = first-block
  loads-before (suc i) below =
      let earlier : i < run.n = omega (arith, below) in
      let ends = run-ends A run.b run.n (i + 1) (omega (arith, below)) in
      let more : (run.b + i) * A + A < (span_of q.client).hi = omega (arith, ends, is.whole_run.inside, some) in
      let next : i + 1 ≡ suc i = omega arith in
      let here : run.b + i + 1 ≡ run.b + suc i = omega arith in
      ap (λ r. followed A r (ByStripe (Filled (run_block A run buf i)))) (loads-before i earlier)
      ∙ load-next i false earlier (isnt-last A q.client (run.b + i) some there more)
      ∙ ap (λ n. record q { stage = In run.k (ToLoad n (take (run.at + (i + 1) * A) buf)) }) here
      ∙ ap (λ n. record q { stage = In run.k (ToLoad (run.b + suc i) (take (run.at + n * A) buf)) }) next

  -- behind the last block
  pub last-load : (m : ℕ) (t : Bool) → suc m ≡ run.n → (run.b + m == edge A q.client Tail) ≡ t → behind_loads A run buf q (suc m)
      ≡ record q { stage = In run.k (cond t (ToEnd (Got (take (run.at + run.n * A) buf))) (ToLoad (run.b + run.n) (take (run.at + run.n * A) buf))) }
  last-load m t whole test =
      let below : m < run.n = omega (arith, whole) in
      let all : m + 1 ≡ run.n = omega (arith, whole) in
      let here : run.b + m + 1 ≡ run.b + run.n = omega (arith, whole) in
      ap (λ r. followed A r (ByStripe (Filled (run_block A run buf m)))) (loads-before m below)
      ∙ load-next m t below test
      ∙ ap (λ n. record q { stage = In run.k (cond t (ToEnd (Got (take (run.at + n * A) buf))) (ToLoad (run.b + m + 1) (take (run.at + n * A) buf))) }) all
      ∙ ap (λ n. record q { stage = In run.k (cond t (ToEnd (Got (take (run.at + run.n * A) buf))) (ToLoad n (take (run.at + run.n * A) buf))) }) here

  end-of : (m : ℕ) → suc m ≡ run.n → (run.b + run.n) * A ≡ (run.b + m) * A + A
  end-of m whole = let e : run.b + run.n ≡ run.b + m + 1 = omega (arith, whole) in ap (λ n. n * A) e ∙ omega arith

  all-loads : (m : ℕ) (t : Bool) → suc m ≡ run.n → ((run.b + run.n) * A == (span_of q.client).hi) ≡ t
      → ((t ≡ true) → (run.b + run.n) * A ≡ (span_of q.client).hi) → ((t ≡ false) → (run.b + run.n) * A ≢ (span_of q.client).hi)
      → behind_loads A run buf q (suc m) ≡ record q { stage = In run.k (next_read A q.client run buf) }
  all-loads m true whole test same other =
      let hi_is = same refl in
      let all : take (run.at + run.n * A) buf ≡ buf = take_all (run.at + run.n * A) buf (omega (arith, hi_is, is.whole_run.place, is.whole)) in
      last-load m true whole (is-last A q.client (run.b + m) some there (sym hi_is ∙ end-of m whole))
      ∙ ap (λ xs. record q { stage = In run.k (ToEnd (Got xs)) }) all
      ∙ ap (λ u. record q { stage = In run.k (cond u (ToEnd (Got buf)) (ToLoad (run.b + run.n) (take (run.at + run.n * A) buf))) }) (sym test)
  all-loads m false whole test same other =
      let not = other refl in
      last-load m false whole (isnt-last A q.client (run.b + m) some there (omega (arith, end-of m whole, is.whole_run.inside, not)))
      ∙ ap (λ u. record q { stage = In run.k (cond u (ToEnd (Got buf)) (ToLoad (run.b + run.n) (take (run.at + run.n * A) buf))) }) (sym test)

  -- behind the whole run
  pub loads-whole : behind_loads A run buf q run.n ≡ record q { stage = In run.k (next_read A q.client run buf) }
  loads-whole = go run.n refl is.whole_run.some
    where
      go : (n : ℕ) → n ≡ run.n → 1 ≤ n → behind_loads A run buf q n ≡ record q { stage = In run.k (next_read A q.client run buf) }
      go zero e least = absurd (omega (arith, least))
      go (suc m) e least = elim (eqb_tells ((run.b + run.n) * A) (span_of q.client).hi) [
        | inl same ↦ all-loads m true e same.0 (λ _. same.1) (λ f. absurd (true≢false f))
        | inr other ↦ all-loads m false e other.0 (λ f. absurd (true≢false (sym f))) (λ _. other.1)
      ]

  -- a load that the disk refuses ends the READ
  pub loads-fail : (m : ℕ) → m < run.n → (back : List ℕ)
      → followed A (behind_loads A run buf q m) (ByStripe (Fault (Some back))) ≡ record q { stage = In run.k (ToEnd (Refused Io)) }
  loads-fail m below back = ap (λ r. followed A r (ByStripe (Fault (Some back)))) (loads-before m below)
