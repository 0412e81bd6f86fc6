-- Runs of a stripe: single operations on blocks that lie one behind another, in order, as one call.
use Rattle.std.specs.Prelude.{◌≡◌, ℕ, zero, suc, ◌+◌, ◌*◌, ◌%◌, ◌≤◌, ◌<◌, List, [], ◌∷◌, ◌++◌, length, take, drop, Some}
use Rattle.qs_bytes.specs.Geometry.{stripe_of}
use Rattle.qs_bytes.specs.Pieces.{part}
use Rattle.qs_outside.specs.Runs.{EndsAt, InOrder}
use Rattle.qs_part.specs.declared.stripe.StripeOp.{StripeOp}
use Rattle.qs_part.specs.declared.stripe.StripeOp.TheVariants.{Load, Store}
use Rattle.qs_part.specs.declared.stripe.StripeReply.{StripeReply}
use Rattle.qs_part.specs.declared.stripe.StripeReply.TheVariants.{Filled, Fault, HeldBy, Done}
use Rattle.qs_part.specs.declared.runs.RunOp.{RunOp}
use Rattle.qs_part.specs.declared.runs.RunOp.TheVariants.{Load as LoadRun, Store as StoreRun}
use Rattle.qs_part.specs.declared.runs.RunReply.{RunReply}
use Rattle.qs_part.specs.declared.runs.RunReply.TheVariants.{Filled as RunFilled, Done as RunDone, Fault as RunFault, HeldBy as RunHeldBy}
use Rattle.qs_part.specs.declared.runs.StripeCall.{StripeCall}
use Rattle.qs_part.specs.declared.runs.StripeCall.TheVariants.{One as OneCall, Run as RunCall}
use Rattle.qs_part.specs.declared.runs.StripeAnswer.{StripeAnswer}
use Rattle.qs_part.specs.declared.runs.StripeAnswer.TheVariants.{One as OneAnswer, Run as RunAnswer}
use Rattle.qs_part.specs.Histories.{Call, call}
use Rattle.qs_stripe.specs.declared.geometry.Geometry.{Geometry}
use Rattle.qs_stripe.specs.Table.{StripeValue, Fits, answers}

-- n blocks of the stripe from block b on, in one group of sixteen and inside the image, whose bytes stand in the
-- buffer from place `at` on
pub record IsWholeRun (g : Geometry) (b n at : ℕ) (buf : List ℕ) : Type 0 where
  pub here : stripe_of b ≡ g.stripe
  pub some : 1 ≤ n
  pub group : b % 16 + n ≤ 16
  pub inside : (b + n) * g.align ≤ g.size
  pub whole : at + n * g.align ≤ length buf

abbrev pub FitsRun : Geometry → RunOp → Type 0
FitsRun g (LoadRun b k n at buf) = IsWholeRun g b n at buf
FitsRun g (StoreRun b k n at buf) = IsWholeRun g b n at buf

-- the bytes of block i of a run that stands in a buffer from place `at` on
abbrev pub block_in : ℕ → ℕ → List ℕ → ℕ → List ℕ
block_in align at buf i = part buf (at + i * align) align

-- only the n bytes from place `at` on changed
pub record IsOver (at n : ℕ) (old new : List ℕ) : Type 0 where
  pub before : take at new ≡ take at old
  pub behind : drop (at + n) new ≡ drop (at + n) old
  pub same : length new ≡ length old

-- the single operations of a run: block i is loaded into its part of the buffer, or stored from it
abbrev pub load_at : ℕ → ℕ → ℕ → ℕ → List ℕ → ℕ → StripeOp
load_at align b k at buf i = Load (b + i) k (block_in align at buf i)

abbrev pub run_store_at : ℕ → ℕ → ℕ → ℕ → List ℕ → ℕ → StripeOp
run_store_at align b k at buf i = Store (b + i) k (block_in align at buf i)

-- Block i of a run was answered: it was loaded, and `got` is the buffer behind the run; or the disk refused. It was
-- stored, or the disk refused, or place j holds it.
abbrev pub Loaded : ℕ → ℕ → ℕ → ℕ → List ℕ → List ℕ → ℕ → StripeValue → StripeValue → Type 0
Loaded align b k at buf got i old new = answers old (load_at align b k at buf i) (Filled (block_in align at got i)) new

abbrev pub NotLoaded : ℕ → ℕ → ℕ → ℕ → List ℕ → List ℕ → ℕ → StripeValue → StripeValue → Type 0
NotLoaded align b k at buf got i old new = answers old (load_at align b k at buf i)
    (Fault (Some (block_in align at got i))) new

abbrev pub StoredAt : ℕ → ℕ → ℕ → ℕ → List ℕ → ℕ → StripeValue → StripeValue → Type 0
StoredAt align b k at buf i old new = answers old (run_store_at align b k at buf i) (Done (block_in align at buf i)) new

abbrev pub NotStored : ℕ → ℕ → ℕ → ℕ → List ℕ → ℕ → StripeValue → StripeValue → Type 0
NotStored align b k at buf i old new = answers old (run_store_at align b k at buf i)
    (Fault (Some (block_in align at buf i))) new

abbrev pub Waits : ℕ → ℕ → ℕ → ℕ → List ℕ → ℕ → ℕ → StripeValue → StripeValue → Type 0
Waits align b k at buf j i old new = answers old (run_store_at align b k at buf i)
    (HeldBy j (block_in align at buf i)) new

-- A stripe answers a run, as it would the run's single operations in order.
abbrev pub run_answers : StripeValue → RunOp → RunReply → StripeValue → Type 0
run_answers old (LoadRun b k n at buf) (RunFilled got) new =
    IsOver at (n * old.disk.align) buf got × InOrder (Loaded old.disk.align b k at buf got) n old new
run_answers old (LoadRun b k n at buf) (RunFault m got) new =
    IsOver at (n * old.disk.align) buf got × (m < n)
    × EndsAt (Loaded old.disk.align b k at buf got) (NotLoaded old.disk.align b k at buf got) m old new
run_answers old (StoreRun b k n at buf) (RunDone back) new =
    (back ≡ buf) × InOrder (StoredAt old.disk.align b k at buf) n old new
run_answers old (StoreRun b k n at buf) (RunFault m back) new =
    (back ≡ buf) × (m < n) × EndsAt (StoredAt old.disk.align b k at buf) (NotStored old.disk.align b k at buf) m old new
run_answers old (StoreRun b k n at buf) (RunHeldBy m j back) new =
    (back ≡ buf) × (m < n) × EndsAt (StoredAt old.disk.align b k at buf) (Waits old.disk.align b k at buf j) m old new
run_answers _ _ _ _ = ⊥

-- a call of a stripe fits, and how it is answered
abbrev pub FitsCall : Geometry → StripeCall → Type 0
FitsCall g (OneCall op) = Fits g op
FitsCall g (RunCall op) = FitsRun g op

abbrev pub call_answers : StripeValue → StripeCall → StripeAnswer → StripeValue → Type 0
call_answers old (OneCall op) (OneAnswer reply) new = answers old op reply new
call_answers old (RunCall op) (RunAnswer reply) new = run_answers old op reply new
call_answers _ _ _ _ = ⊥

-- the first n of a row
abbrev pub in_row : {X : Type 0} → (ℕ → X) → ℕ → List X
in_row row zero = []
in_row row (suc n) = in_row row n ++ row n ∷ []

-- the single calls that a run is
abbrev pub run_singles : ℕ → ℕ → RunOp → RunReply → List (Call StripeOp StripeReply)
run_singles align request (LoadRun b k n at buf) (RunFilled got) =
    in_row (λ i. call request (load_at align b k at buf i) (Filled (block_in align at got i))) n
run_singles align request (LoadRun b k n at buf) (RunFault m got) =
    in_row (λ i. call request (load_at align b k at buf i) (Filled (block_in align at got i))) m
    ++ call request (load_at align b k at buf m) (Fault (Some (block_in align at got m))) ∷ []
run_singles align request (StoreRun b k n at buf) (RunDone back) =
    in_row (λ i. call request (run_store_at align b k at buf i) (Done (block_in align at buf i))) n
run_singles align request (StoreRun b k n at buf) (RunFault m back) =
    in_row (λ i. call request (run_store_at align b k at buf i) (Done (block_in align at buf i))) m
    ++ call request (run_store_at align b k at buf m) (Fault (Some (block_in align at buf m))) ∷ []
run_singles align request (StoreRun b k n at buf) (RunHeldBy m j back) =
    in_row (λ i. call request (run_store_at align b k at buf i) (Done (block_in align at buf i))) m
    ++ call request (run_store_at align b k at buf m) (HeldBy j (block_in align at buf m)) ∷ []
run_singles align request _ _ = []

-- the single calls that a call is
abbrev pub singles : ℕ → ℕ → StripeCall → StripeAnswer → List (Call StripeOp StripeReply)
singles align request (OneCall op) (OneAnswer reply) = call request op reply ∷ []
singles align request (RunCall op) (RunAnswer reply) = run_singles align request op reply
singles align request _ _ = []

-- the single calls of a history
abbrev pub all_singles : ℕ → List (Call StripeCall StripeAnswer) → List (Call StripeOp StripeReply)
all_singles align [] = []
all_singles align (c ∷ cs) = singles align c.request c.op c.reply ++ all_singles align cs
