-- A run is its single operations, in any history.
use Rattle.std.proofs.Common.{◌≡◌, ℕ, zero, suc, ◌+◌, ◌*◌, ◌<◌, ◌≤◌, List, [], ◌∷◌, ◌++◌, drop, refl, sym, ap, subst, ◌∙◌, arith}
use Rattle.std.specs.Prelude.{Some}
use Rattle.std.proofs.Math.Nat.{mul-le-mul_right}
use Rattle.std.proofs.lemmas.List.{length-drop, length-take-le}
use Rattle.qs_bytes.specs.Geometry.{stripe_of}
use Rattle.qs_outside.specs.Blocks.{Fixed}
use Rattle.qs_outside.specs.Runs.{EndsAt, InOrder}
use Rattle.qs_part.specs.declared.stripe.StripeOp.{StripeOp}
use Rattle.qs_part.specs.declared.stripe.StripeReply.{StripeReply}
use Rattle.qs_part.specs.declared.stripe.StripeReply.TheVariants.{Filled, Fault, HeldBy, Done}
use Rattle.qs_part.specs.declared.runs.RunOp.{RunOp}
use Rattle.qs_part.specs.declared.runs.RunOp.TheVariants.{Load as LoadRun, Store as StoreRun}
use Rattle.qs_part.specs.declared.runs.RunReply.{RunReply}
use Rattle.qs_part.specs.declared.runs.RunReply.TheVariants.{Filled as RunFilled, Done as RunDone, Fault as RunFault, HeldBy as RunHeldBy}
use Rattle.qs_part.specs.declared.runs.StripeCall.{StripeCall}
use Rattle.qs_part.specs.declared.runs.StripeCall.TheVariants.{One as OneCall, Run as RunCall}
use Rattle.qs_part.specs.declared.runs.StripeAnswer.{StripeAnswer}
use Rattle.qs_part.specs.declared.runs.StripeAnswer.TheVariants.{One as OneAnswer, Run as RunAnswer}
use Rattle.qs_part.specs.Histories.{Call, call, lawful, StandsFor}
use Rattle.qs_part.proofs.Histories.{stands_append, stands_fixed, stands_snoc}
use Rattle.qs_stripe.specs.declared.geometry.Geometry.{Geometry}
use Rattle.qs_stripe.specs.History.{HeldIn}
use Rattle.qs_stripe.specs.Runs.{FitsCall, FitsRun, IsWholeRun, Loaded, NotLoaded, NotStored, StoredAt, Waits, all_singles, block_in, call_answers, in_row, load_at, run_answers, run_singles, singles, run_store_at}
use Rattle.qs_stripe.specs.Table.{Fits, IsWhole, StripeValue, answers, geometry}
use Rattle.qs_stripe.proofs.HeldThrough.{held_in}

abbrev Single : Type 0
Single = Call StripeOp StripeReply

abbrev May : StripeValue → StripeOp → StripeReply → StripeValue → Type 0
May = lawful geometry Fits answers

-- a single call that may be, where the geometry is the opening's
abbrev Leads : StripeValue → (ℕ → Single) → ℕ → StripeValue → StripeValue → Type 0
Leads opening row i v w = geometry v ≡ geometry opening → May v (row i).op (row i).reply w

-- each step of a chain is a single call
row-stands : (opening : StripeValue) (row : ℕ → Single) (step : ℕ → StripeValue → StripeValue → Type 0) (n all : ℕ) → n ≤ all
    → ((i : ℕ) → i < all → (v w : StripeValue) → step i v w → Leads opening row i v w) → (new : StripeValue) → InOrder step n opening new
    → StandsFor May opening (in_row row n) new
row-stands opening row step zero all within leads new steps = sym steps
row-stands opening row step (suc n) all within leads new steps =
    let front = row-stands opening row step n all (omega (arith, within)) leads steps.0 steps.1.0 in
    let same = stands_fixed geometry Fits answers opening (in_row row n) steps.0 front in
    stands_snoc May opening (in_row row n) steps.0 (row n).request (row n).op (row n).reply new front
    (leads n (omega (arith, within)) steps.0 new steps.1.1 same)

-- and the last one of another kind
ends-stand : (opening : StripeValue) (row : ℕ → Single) (step final : ℕ → StripeValue → StripeValue → Type 0) (m all : ℕ) (end_ : Single) → m < all
    → ((i : ℕ) → i < all → (v w : StripeValue) → step i v w → Leads opening row i v w)
    → ((v w : StripeValue) → final m v w → Leads opening (λ _. end_) m v w) → (new : StripeValue) → EndsAt step final m opening new
    → StandsFor May opening (in_row row m ++ end_ ∷ []) new
ends-stand opening row step final m all end_ within leads leads-end new steps =
    let front = row-stands opening row step m all (omega (arith, within)) leads steps.0 steps.1.0 in
    let same = stands_fixed geometry Fits answers opening (in_row row m) steps.0 front in
    stands_snoc May opening (in_row row m) steps.0 end_.request end_.op end_.reply new front (leads-end steps.0 new steps.1.1 same)

-- each block of a run is one of the stripe's, with a buffer of one block
block-whole : (g : Geometry) (b n at i : ℕ) (buf : List ℕ) → IsWholeRun g b n at buf → i < n → IsWhole g (b + i) (block_in g.align at buf i)
block-whole g b n at i buf run below =
    let next : (i + 1) * g.align ≤ n * g.align = mul-le-mul_right g.align (omega (arith, below)) in
    let inside : (b + i + 1) * g.align ≤ (b + n) * g.align = mul-le-mul_right g.align (omega (arith, below)) in
    let here : stripe_of (b + i) ≡ stripe_of b = omega (arith, run.group, below) in
    record {
      block = record { here = here ∙ run.here; inside = omega (arith, inside, run.inside) };
      whole = length-take-le g.align (drop (at + i * g.align) buf) (omega (arith, next, run.whole, length-drop (at + i * g.align) buf));
    }

whole-at : (opening v : StripeValue) (b n at i : ℕ) (buf : List ℕ) → IsWholeRun (geometry opening) b n at buf → i < n → geometry v ≡ geometry opening
    → IsWhole (geometry v) (b + i) (block_in opening.disk.align at buf i)
whole-at opening v b n at i buf run below same =
    subst (λ (g : Geometry). IsWhole g (b + i) (block_in opening.disk.align at buf i)) (sym same) (block-whole (geometry opening) b n at i buf run below)

geometry-kept : (v w : StripeValue) → Fixed v.disk w.disk → geometry w ≡ geometry v
geometry-kept v w fixed = rw (fixed.stripe, fixed.align, fixed.size) refl

-- what a run is stands for its single calls
pub run-stands : (request : ℕ) (old : StripeValue) (op : RunOp) (reply : RunReply) (new : StripeValue) → FitsRun (geometry old) op
    → run_answers old op reply new → StandsFor May old (run_singles old.disk.align request op reply) new
run-stands request old (LoadRun b k n at buf) (RunFilled got) new fits row =
    row-stands old (λ i. call request (load_at old.disk.align b k at buf i) (Filled (block_in old.disk.align at got i)))
    (Loaded old.disk.align b k at buf got) n n (omega arith)
    (λ i below v w step same. (whole-at old v b n at i buf fits below same, step, geometry-kept v w step.0.fixed)) new row.1
run-stands request old (LoadRun b k n at buf) (RunFault m got) new fits row =
    ends-stand old (λ i. call request (load_at old.disk.align b k at buf i) (Filled (block_in old.disk.align at got i)))
    (Loaded old.disk.align b k at buf got) (NotLoaded old.disk.align b k at buf got) m n
    (call request (load_at old.disk.align b k at buf m) (Fault (Some (block_in old.disk.align at got m)))) row.1
    (λ i below v w step same. (whole-at old v b n at i buf fits below same, step, geometry-kept v w step.0.fixed))
    (λ v w step same. (whole-at old v b n at m buf fits row.1 same, step, geometry-kept v w step.0.fixed)) new row.2
run-stands request old (LoadRun b k n at buf) (RunDone back) new fits row = absurd row
run-stands request old (LoadRun b k n at buf) (RunHeldBy m j back) new fits row = absurd row
run-stands request old (StoreRun b k n at buf) (RunFilled got) new fits row = absurd row
run-stands request old (StoreRun b k n at buf) (RunDone back) new fits row =
    row-stands old (λ i. call request (run_store_at old.disk.align b k at buf i) (Done (block_in old.disk.align at buf i)))
    (StoredAt old.disk.align b k at buf) n n (omega arith)
    (λ i below v w step same. (whole-at old v b n at i buf fits below same, step, geometry-kept v w step.1.fixed)) new row.1
run-stands request old (StoreRun b k n at buf) (RunFault m back) new fits row =
    ends-stand old (λ i. call request (run_store_at old.disk.align b k at buf i) (Done (block_in old.disk.align at buf i)))
    (StoredAt old.disk.align b k at buf) (NotStored old.disk.align b k at buf) m n
    (call request (run_store_at old.disk.align b k at buf m) (Fault (Some (block_in old.disk.align at buf m)))) row.1
    (λ i below v w step same. (whole-at old v b n at i buf fits below same, step, geometry-kept v w step.1.fixed))
    (λ v w step same. (whole-at old v b n at m buf fits row.1 same, step, geometry-kept v w step.1.fixed)) new row.2
run-stands request old (StoreRun b k n at buf) (RunHeldBy m j back) new fits row =
    ends-stand old (λ i. call request (run_store_at old.disk.align b k at buf i) (Done (block_in old.disk.align at buf i)))
    (StoredAt old.disk.align b k at buf) (Waits old.disk.align b k at buf j) m n
    (call request (run_store_at old.disk.align b k at buf m) (HeldBy j (block_in old.disk.align at buf m))) row.1
    (λ i below v w step same. (whole-at old v b n at i buf fits below same, step, geometry-kept v w step.1.fixed))
    (λ v w step same. (whole-at old v b n at m buf fits row.1 same, step, ap geometry step.3)) new row.2

-- and so each call
call-stands : (request : ℕ) (old : StripeValue) (op : StripeCall) (reply : StripeAnswer) (new : StripeValue)
    → lawful geometry FitsCall call_answers old op reply new → StandsFor May old (singles old.disk.align request op reply) new
call-stands request old (OneCall op) (OneAnswer reply) new may = (new, may, refl)
call-stands request old (RunCall op) (RunAnswer reply) new may = run-stands request old op reply new may.0 may.1
call-stands request old (OneCall op) (RunAnswer reply) new may = absurd may.1
call-stands request old (RunCall op) (OneAnswer reply) new may = absurd may.1

-- a history of calls is one of single calls
pub singles-stand : (opening : StripeValue) (cs : List (Call StripeCall StripeAnswer)) (v : StripeValue)
    → StandsFor (lawful geometry FitsCall call_answers) opening cs v → StandsFor May opening (all_singles opening.disk.align cs) v
singles-stand opening [] v stands = stands
singles-stand opening (c ∷ cs) v stands =
    let align = ap (λ (g : Geometry). g.align) stands.1.2 in
    stands_append May opening (singles opening.disk.align c.request c.op c.reply) stands.0 (all_singles opening.disk.align cs) v
    (call-stands c.request opening c.op c.reply stands.0 stands.1)
    (subst (λ a. StandsFor May stands.0 (all_singles a cs) v) align (singles-stand stands.0 cs v stands.2))

pub held-in-calls : (opening : StripeValue) (cs : List (Call StripeCall StripeAnswer)) (v : StripeValue)
    → StandsFor (lawful geometry FitsCall call_answers) opening cs v → HeldIn (all_singles opening.disk.align cs)
held-in-calls opening cs v stands = held_in opening (all_singles opening.disk.align cs) v (singles-stand opening cs v stands)
