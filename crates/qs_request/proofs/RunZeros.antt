-- A WRITE_ZEROES behind a run of whole blocks that are stored from zeros.
use Rattle.std.proofs.Common.{◌≡◌, ℕ, zero, suc, ◌+◌, ◌-◌, ◌*◌, ◌<◌, ◌≤◌, false, ◌==◌, cond, List, [], get_or, length, drop, replicate, refl, sym, ap, ◌∙◌, subst, arith, true≢false}
use Rattle.std.specs.Prelude.{Some}
use Rattle.std.proofs.Math.Nat.{mul-le-mul_right}
use Rattle.std.proofs.lemmas.List.{ext_get_or, get_or-take, get_or-drop, length-drop, length-replicate, length-take-le}
use Rattle.qs_bytes.specs.Geometry.{stripe_of}
use Rattle.qs_bytes.specs.declared.ask.Kind.{Kind}
use Rattle.qs_bytes.specs.declared.ask.Kind.TheVariants.{Write}
use Rattle.qs_outside.specs.Runs.{EndsAt, InOrder}
use Rattle.qs_part.specs.declared.event.Note.{Note}
use Rattle.qs_part.specs.declared.event.OpKind.TheVariants.{Store as StoreKind}
use Rattle.qs_part.specs.declared.event.StripeNote.TheVariants as told
use Rattle.qs_part.specs.declared.runs.RunOp.TheVariants.{Store as StoreRun}
use Rattle.qs_part.specs.declared.runs.RunReply.TheVariants.{Done as RunDone, Fault as RunFault, HeldBy as RunHeldBy}
use Rattle.qs_part.specs.declared.stripe.Side.TheVariants.{Head, Tail}
use Rattle.qs_part.specs.declared.stripe.StripeOp.TheVariants.{Store}
use Rattle.qs_part.specs.declared.stripe.StripeReply.TheVariants.{Done, Fault, HeldBy}
use Rattle.qs_stripe.specs.Runs.{NotStored, StoredAt, Waits, block_in, run_answers}
use Rattle.qs_stripe.specs.Table.{StripeValue, answers}
use Rattle.qs_model.specs.Requests.{Req, Step, In, ToStore, body_at, brings_bytes, edge, pad, span_of, store_failed, stored}
use Rattle.qs_request.specs.declared.machine.Machine.{Machine}
use Rattle.qs_request_state.specs.declared.stage.Stage.TheVariants.{In as InAt}
use Rattle.qs_request_state.specs.declared.stage.Step.{Step as Next}
use Rattle.qs_request_state.specs.declared.stage.Step.TheVariants.{Store as StoreNext}
use Rattle.qs_request.specs.declared.whole_run.WholeRun.{WholeRun}
use Rattle.qs_request.specs.Inside.{IsFree, client_of, request_of, step_of}
use Rattle.qs_request.specs.RunSteps.{AreZeros, RanOut}
use Rattle.qs_request.specs.Table.{IsMerged}
use Rattle.qs_request.specs.Value.{bytes_of}
use Rattle.qs_request.specs.WholeRuns.{IsWholeRun}
use Rattle.qs_request.proofs.RunChains.{both, note_for, stores-end, stores-ran, stores-wait}
use Rattle.qs_request.proofs.RunMachine.{free-with, inside-image, some, step-same, storing, storing-at, storing-in, writing-run}
use Rattle.qs_request.proofs.WholeReads.{run-ends}
use Rattle.qs_request.proofs.WholeWrites.{covered, store-done, stores-fail, stores-held}

-- a request that brings no bytes has none
no-bytes : (kind : Kind) (bytes : List ℕ) → brings_bytes kind ≡ false → bytes_of kind bytes ≡ []
no-bytes Write bytes is = absurd (true≢false is)
no-bytes _ bytes is = refl

zero-at : (n i : ℕ) → ◌≡◌ {A = ℕ} (get_or (replicate n 0) i 0) 0
zero-at zero i = refl
zero-at (suc n) zero = refl
zero-at (suc n) (suc i) = zero-at n i

none-at : (i : ℕ) → ◌≡◌ {A = ℕ} (get_or [] i 0) 0
none-at i = refl

module _ (m : Machine) (run : WholeRun) (free : IsFree m) (whole : IsWholeRun m.shape.align (span_of (client_of m)) run)
    (at_stage : m.stage ≡ InAt run.k (StoreNext run.b)) (brings : brings_bytes m.ask.kind ≡ false) where
  abbrev A : ℕ
  A = m.shape.align

  abbrev q : Req
  q = request_of m

  -- as many zeros as the bytes that the request covers up to the end of the run
  abbrev all-zeros : List ℕ
  all-zeros = replicate (run.at + run.n * A) 0

  holds : run.at + run.n * A ≤ length all-zeros
  holds = omega (arith, length-replicate {A = ℕ} (run.at + run.n * A) 0)

  zero-in : (i x : ℕ) → x < A → get_or (block_in A run.at all-zeros i) x 0 ≡ 0
  zero-in i x small = get_or-take A (drop (run.at + i * A) all-zeros) x 0 small ∙ get_or-drop (run.at + i * A) all-zeros x 0
      ∙ zero-at (run.at + run.n * A) (run.at + i * A + x)

  zero-merged : (i : ℕ) → i < run.n → IsMerged A q.client q.pads (run.b + i) (block_in A run.at all-zeros i)
  zero-merged i below x small =
      let ends = run-ends A run.b run.n i below in
      let y = (run.b + i) * A + x in
      let none : body_at q.client y ≡ 0 = ap (λ (xs : List ℕ). get_or xs (y - (span_of q.client).lo) 0) (no-bytes m.ask.kind m.body brings) ∙ none-at (y - (span_of q.client).lo) in
      zero-in i x small ∙ sym none
      ∙ sym (ap (λ t. cond t (body_at q.client y) (get_or (pad q.pads (cond (run.b + i == edge A q.client Head) Head Tail)) x 0))
      (covered q.client y (omega (arith, whole.place)) (omega (arith, small, ends, whole.inside))))

  step-is : (next : Next) (step : Step) → step_of m next ≡ step → request_of (record m { stage = InAt run.k next }) ≡ record q { stage = In run.k step }
  step-is next step e = ap (λ (s : Step). record q { stage = In run.k s }) (step-same m (InAt run.k next) next ∙ e)

  pub zero-held-free : (done : ℕ) → done < run.n → IsFree (record m { stage = InAt run.k (StoreNext (run.b + done)) })
  zero-held-free done below =
      free-with m run free whole m.body (InAt run.k (StoreNext (run.b + done))) refl
      (storing-in m run free whole at_stage (run.b + done) (InAt run.k (StoreNext (run.b + done))) (storing-at m run free whole at_stage done below))

  module _ (zeros : List ℕ) (are : AreZeros (run.n * A) zeros) where
    block-long : (at : ℕ) (buf : List ℕ) (i : ℕ) → at + run.n * A ≤ length buf → i < run.n → length (block_in A at buf i) ≡ A
    block-long at buf i long below =
        let next : (i + 1) * A ≤ run.n * A = mul-le-mul_right A (omega (arith, below)) in
        length-take-le A (drop (at + i * A) buf) (omega (arith, next, long, length-drop (at + i * A) buf))

    -- block i of both is the same zeros
    same-block : (i : ℕ) → i < run.n → block_in A 0 zeros i ≡ block_in A run.at all-zeros i
    same-block i below = ext_get_or 0 (block_in A 0 zeros i) (block_in A run.at all-zeros i)
        (block-long 0 zeros i (omega (arith, are.long)) below ∙ sym (block-long run.at all-zeros i holds below))
        (λ x lt.
        let small : x < A = subst (λ (n : ℕ). x < n) (block-long 0 zeros i (omega (arith, are.long)) below) lt in
        get_or-take A (drop (0 + i * A) zeros) x 0 small ∙ get_or-drop (0 + i * A) zeros x 0 ∙ are.zeros (0 + i * A + x) ∙ sym (zero-in i x small))

    stored-too : (i : ℕ) → i < run.n → (v w : StripeValue) → StoredAt A run.b run.k 0 zeros i v w → StoredAt A run.b run.k run.at all-zeros i v w
    stored-too i below v w row = subst (λ (x : List ℕ). answers v (Store (run.b + i) run.k x) (Done x) w) (same-block i below) row

    chain-to : (n : ℕ) → n ≤ run.n → (v w : StripeValue) → InOrder (StoredAt A run.b run.k 0 zeros) n v w → InOrder (StoredAt A run.b run.k run.at all-zeros) n v w
    chain-to zero few v w steps = steps
    chain-to (suc n) few v w steps = (
      steps.0,
      (chain-to n (omega (arith, few)) v steps.0 steps.1.0, stored-too n (omega (arith, few)) steps.0 w steps.1.1),
    )

    module _ (place : run.k < 256) (v w : StripeValue) (align : v.disk.align ≡ A) (back : List ℕ) where
      pub zeros-answered : (next : Next) (note : Note) → run_answers v (StoreRun run.b run.k run.n 0 zeros) (RunDone back) w
          → step_of m next ≡ stored A (client_of m) (run.b + (run.n - 1)) → note ≡ note_for StoreKind (run.b + (run.n - 1)) told.Done
          → RanOut m.shape (stripe_of run.b) run.n note (both q v) (both (request_of (record m { stage = InAt run.k next })) w)
      zeros-answered next note row step note-is =
          let all : suc (run.n - 1) ≡ run.n = omega (arith, whole.some) in
          let given : InOrder (StoredAt A run.b run.k 0 zeros) run.n v w = rw (sym align) row.1 in
          let steps : InOrder (StoredAt A run.b run.k run.at all-zeros) run.n v w = chain-to run.n (omega arith) v w given in
          let whole-steps = subst (λ i. InOrder (StoredAt A run.b run.k run.at all-zeros) i v w) (sym all) steps in
          let ran = stores-ran m.shape q run (some m run free whole) whole.group place (inside-image m run free whole (storing m run free whole at_stage).reached.going)
          (writing-run m run free whole at_stage) all-zeros holds zero-merged (run.n - 1) all v w whole-steps in
          let request = step-is next (stored A (client_of m) (run.b + (run.n - 1))) step
          ∙ sym (store-done A q run all-zeros (some m run free whole) (writing-run m run free whole at_stage) (run.n - 1) (omega (arith, whole.some))) in
          rw (note-is, request) ran

      pub zeros-refused : (done : ℕ) (next : Next) (note : Note) → run_answers v (StoreRun run.b run.k run.n 0 zeros) (RunFault done back) w
          → step_of m next ≡ store_failed A (client_of m) (run.b + done) → note ≡ note_for StoreKind (run.b + done) told.Fault
          → RanOut m.shape (stripe_of run.b) run.n note (both q v) (both (request_of (record m { stage = InAt run.k next })) w)
      zeros-refused done next note row step note-is =
          let given : EndsAt (StoredAt A run.b run.k 0 zeros) (NotStored A run.b run.k 0 zeros) done v w = rw (sym align) row.2 in
          let steps : EndsAt (StoredAt A run.b run.k run.at all-zeros) (NotStored A run.b run.k run.at all-zeros) done v w = (
            given.0,
            (
              chain-to done (omega (arith, row.1)) v given.0 given.1.0,
              subst (λ (x : List ℕ). answers given.0 (Store (run.b + done) run.k x) (Fault (Some x)) w) (same-block done row.1) given.1.1,
            ),
          ) in
          let ran = stores-end m.shape q run (some m run free whole) whole.group place (inside-image m run free whole (storing m run free whole at_stage).reached.going)
          (writing-run m run free whole at_stage) all-zeros holds zero-merged done row.1 v w steps in
          let request = step-is next (store_failed A (client_of m) (run.b + done)) step
          ∙ sym (stores-fail A q run all-zeros (some m run free whole) (writing-run m run free whole at_stage) done row.1 (block_in A run.at all-zeros done)) in
          rw (note-is, request) ran

      pub zeros-held-up : (done j : ℕ) (note : Note) → run_answers v (StoreRun run.b run.k run.n 0 zeros) (RunHeldBy done j back) w
          → note ≡ note_for StoreKind (run.b + done) (told.HeldBy j)
          → RanOut m.shape (stripe_of run.b) run.n note (both q v) (both (request_of (record m { stage = InAt run.k (StoreNext (run.b + done)) })) w)
      zeros-held-up done j note row note-is =
          let given : EndsAt (StoredAt A run.b run.k 0 zeros) (Waits A run.b run.k 0 zeros j) done v w = rw (sym align) row.2 in
          let steps : EndsAt (StoredAt A run.b run.k run.at all-zeros) (Waits A run.b run.k run.at all-zeros j) done v w = (
            given.0,
            (
              chain-to done (omega (arith, row.1)) v given.0 given.1.0,
              subst (λ (x : List ℕ). answers given.0 (Store (run.b + done) run.k x) (HeldBy j x) w) (same-block done row.1) given.1.1,
            ),
          ) in
          let ran = stores-wait m.shape q run (some m run free whole) whole.group place (inside-image m run free whole (storing m run free whole at_stage).reached.going)
          (writing-run m run free whole at_stage) all-zeros holds zero-merged done j row.1 v w steps in
          let request = step-is (StoreNext (run.b + done)) (ToStore (run.b + done)) refl
          ∙ sym (stores-held A q run all-zeros (some m run free whole) (writing-run m run free whole at_stage) done row.1 j (block_in A run.at all-zeros done)) in
          rw (note-is, request) ran
