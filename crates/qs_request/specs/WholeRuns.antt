-- Runs of whole blocks: the next operations of a READ or a WRITE, on blocks that its span covers wholly.
use Rattle.std.specs.Prelude.{◌≡◌, ℕ, zero, suc, ◌+◌, ◌*◌, ◌%◌, ◌≤◌, ◌<◌, ◌⊎◌, ◌==◌, if◌then◌else◌, List, length, take, Some}
use Rattle.qs_bytes.specs.Pieces.{part}
use Rattle.qs_bytes.specs.Spans.{Places}
use Rattle.qs_bytes.specs.declared.ask.Verdict.TheVariants.{Got, Refused}
use Rattle.qs_bytes.specs.declared.ask.Errno.TheVariants.{Io}
use Rattle.qs_part.specs.declared.stripe.StripeReply.TheVariants.{Filled, Done, Fault, HeldBy}
use Rattle.qs_model.specs.Requests.{Client, Req, Step, ToLoad, ToStore, ToEnd, In, span_of, stored, store_failed}
use Rattle.qs_request.specs.declared.todo.PartReply.TheVariants.{Stripe as ByStripe}
use Rattle.qs_request.specs.declared.whole_run.WholeRun.{WholeRun}
use Rattle.qs_request.specs.Table.{IsMerged, followed}

-- the blocks of a run lie in the span, in one group of sixteen, and as many as there are
pub record IsWholeRun (A : ℕ) (s : Places) (run : WholeRun) : Type 0 where
  pub place : s.lo + run.at ≡ run.b * A
  pub some : 1 ≤ run.n
  pub group : run.b % 16 + run.n ≤ 16
  pub inside : (run.b + run.n) * A ≤ s.hi
  pub most : (run.b % 16 + run.n ≡ 16) ⊎ (s.hi < (run.b + run.n) * A + A)

-- the bytes of block i of a run, in the request's buffer
abbrev pub run_block : ℕ → WholeRun → List ℕ → ℕ → List ℕ
run_block A run buf i = part buf (run.at + i * A) A

-- a READ whose next operations load these blocks, and that has the bytes before them in its buffer
pub record IsReadingRun (A : ℕ) (q : Req) (run : WholeRun) (buf : List ℕ) : Type 0 where
  pub stage : q.stage ≡ In run.k (ToLoad run.b (take run.at buf))
  pub whole_run : IsWholeRun A (span_of q.client) run
  pub whole : (span_of q.client).lo + length buf ≡ (span_of q.client).hi

-- the READ behind i loads of the run, which found the blocks that are in the buffer now
abbrev pub behind_loads : ℕ → WholeRun → List ℕ → Req → ℕ → Req
behind_loads A run buf q zero = q
behind_loads A run buf q (suc i) = followed A (behind_loads A run buf q i) (ByStripe (Filled (run_block A run buf i)))

-- what it does next behind the whole run: the next block, or its end
abbrev pub next_read : ℕ → Client → WholeRun → List ℕ → Step
next_read A c run buf =
    if (run.b + run.n) * A == (span_of c).hi then ToEnd (Got buf)
    else ToLoad (run.b + run.n) (take (run.at + run.n * A) buf)

-- a WRITE whose next operations store these blocks
pub record IsWritingRun (A : ℕ) (q : Req) (run : WholeRun) : Type 0 where
  pub stage : q.stage ≡ In run.k (ToStore run.b)
  pub whole_run : IsWholeRun A (span_of q.client) run

-- the WRITE behind i stores of the run
abbrev pub behind_stores : ℕ → WholeRun → List ℕ → Req → ℕ → Req
behind_stores A run buf q zero = q
behind_stores A run buf q (suc i) = followed A (behind_stores A run buf q i) (ByStripe (Done (run_block A run buf i)))

-- What the loads of a run make of a READ, block by block: each is the next operation, the last one leads to the block
-- behind the run or to the answer, and one that the disk refuses ends the READ.
pub record AreLoads (A : ℕ) (q : Req) (run : WholeRun) (buf : List ℕ) : Type 0 where
  pub before : (i : ℕ) → i < run.n → behind_loads A run buf q i
      ≡ record q { stage = In run.k (ToLoad (run.b + i) (take (run.at + i * A) buf)) }
  pub whole : behind_loads A run buf q run.n ≡ record q { stage = In run.k (next_read A q.client run buf) }
  pub fails : (m : ℕ) → m < run.n → (back : List ℕ) →
      followed A (behind_loads A run buf q m) (ByStripe (Fault (Some back)))
      ≡ record q { stage = In run.k (ToEnd (Refused Io)) }

-- What the stores of a run make of a WRITE: each is the next operation, with the body's bytes; one that is done leads
-- on, one that the disk refuses ends the WRITE, and one whose block another place holds stays next.
pub record AreStores (A : ℕ) (q : Req) (run : WholeRun) : Type 0 where
  pub before : (i : ℕ) → i < run.n → behind_stores A run q.client.body q i
      ≡ record q { stage = In run.k (ToStore (run.b + i)) }
  pub content : (i : ℕ) → i < run.n → IsMerged A q.client q.pads (run.b + i) (run_block A run q.client.body i)
  pub done : (m : ℕ) → m < run.n → behind_stores A run q.client.body q (suc m)
      ≡ record q { stage = In run.k (stored A q.client (run.b + m)) }
  pub fails : (m : ℕ) → m < run.n → (back : List ℕ) →
      followed A (behind_stores A run q.client.body q m) (ByStripe (Fault (Some back)))
      ≡ record q { stage = In run.k (store_failed A q.client (run.b + m)) }
  pub waits : (m : ℕ) → m < run.n → (j : ℕ) (back : List ℕ) →
      followed A (behind_stores A run q.client.body q m) (ByStripe (HeldBy j back))
      ≡ record q { stage = In run.k (ToStore (run.b + m)) }

-- the span doesn't cover block b wholly
abbrev pub IsNotWhole : ℕ → Places → ℕ → Type 0
IsNotWhole A s b = (b * A < s.lo) ⊎ (s.hi < b * A + A)
