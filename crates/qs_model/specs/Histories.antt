-- What a run did to one byte, and where its requests were asked and answered.
use Rattle.std.specs.Prelude.{◌≡◌, ℕ, ◌/◌, ◌%◌, Bool, true, false, ◌&&◌, ◌==◌, if◌then◌else◌, List, [], ◌∷◌, ◌++◌, get_or, Option, Some, None}
use Rattle.qs_bytes.specs.declared.ask.Verdict.{Verdict}
use Rattle.qs_cells.specs.declared.cell.CellEntry.{CellEntry}
use Rattle.qs_cells.specs.declared.cell.CellEntry.TheVariants.{Read, Write, Maybe, Crash}
use Rattle.qs_model.specs.Requests.{Client, Stage, reads, writes, covers, body_at, verdict}
use Rattle.qs_part.specs.declared.graph.Route.{Route}
use Rattle.qs_model.specs.Acts.{Act, Answers, Waits, Routes, Loads, Stores, StoreFails, Ends, Wait, HeldBy, Taken, Strange, NotHeld, Element, NotAttached, Asked, Did, Crashed, block_of}

-- a request reads, or writes, the byte at x where it does something to block b
abbrev pub reads_in : ℕ → Client → ℕ → ℕ → Bool
reads_in A c b x = reads c && covers c x && x / A == b

abbrev pub writes_in : ℕ → Client → ℕ → ℕ → Bool
writes_in A c b x = writes c && covers c x && x / A == b

-- What a row did to the byte at x: a load of its block is a read by a request that reads x, a store
-- a write by one that writes x, or perhaps one where the disk refused.
abbrev pub cell_of : ℕ → ℕ → ℕ → Client → {stage : Stage} → Act stage → List CellEntry
cell_of A x r c (Loads {b = b} bytes) = if reads_in A c b x then Read r (get_or bytes (x % A) 0) ∷ [] else []
cell_of A x r c (Stores {b = b} bytes past) = if writes_in A c b x then Write r (body_at c x) ∷ [] else []
cell_of A x r c (StoreFails {b = b} bytes took past) = if writes_in A c b x then Maybe r (body_at c x) took ∷ [] else []
cell_of A x r c _ = []

-- what a step did to the byte at x; a crash left a byte of its own
abbrev pub cell_at : ℕ → ℕ → Element → List CellEntry
cell_at A x (Did r q act) = cell_of A x r q.client act
cell_at A x (Crashed left) = Crash (get_or (left (x / A)) (x % A) 0) ∷ []
cell_at A x _ = []

-- the history of the byte at x
abbrev pub cell : ℕ → ℕ → List Element → List CellEntry
cell A x [] = []
cell A x (e ∷ es) = cell_at A x e ++ cell A x es

-- the entries of one request
abbrev pub is_entry_of : ℕ → CellEntry → Bool
is_entry_of r (Read s v) = s == r
is_entry_of r (Write s v) = s == r
is_entry_of r (Maybe s v took) = s == r
is_entry_of r (Crash v) = false

-- the verdict that a row answers with
abbrev pub answer_of : Bool → {stage : Stage} → Act stage → Option Verdict
answer_of dropped (Answers {v = v}) = Some v
answer_of dropped (Ends {v = v}) = Some (verdict dropped v)
answer_of dropped _ = None

-- the request with this number does something in a step
abbrev pub Acts : ℕ → Element → Type 0
Acts r (Did s q act) = s ≡ r
Acts r _ = ⊥

-- the request with this number, made for this client, is answered by this verdict
abbrev pub Answered : ℕ → Client → Verdict → Element → Type 0
Answered r c v (Did s q act) = (s ≡ r) × (q.client ≡ c) × (answer_of q.dropped act ≡ Some v)
Answered r c v _ = ⊥

-- the request with this number is answered
abbrev pub IsAnswer : ℕ → Element → Type 0
IsAnswer r (Did s q act) = (s ≡ r) × ((v : Verdict) × (answer_of q.dropped act ≡ Some v))
IsAnswer r _ = ⊥

-- the request with this number is made
abbrev pub IsAsk : ℕ → Element → Type 0
IsAsk r (Asked s c) = s ≡ r
IsAsk r _ = ⊥

-- a row of Store, done or refused
abbrev pub IsStoreRow : {stage : Stage} → Act stage → Type 0
IsStoreRow (Stores bytes past) = Unit {0}
IsStoreRow (StoreFails bytes took past) = Unit {0}
IsStoreRow _ = ⊥

-- a row of Store that reaches the byte at x, by a write that covers it
abbrev pub IsStoreOf : ℕ → ℕ → Client → {stage : Stage} → Act stage → Type 0
IsStoreOf A x c (Stores {b = b} bytes past) = writes_in A c b x ≡ true
IsStoreOf A x c (StoreFails {b = b} bytes took past) = writes_in A c b x ≡ true
IsStoreOf A x c _ = ⊥

-- a store by a request, done or refused
abbrev pub IsStore : ℕ → Client → Element → Type 0
IsStore r c (Did s q act) = (s ≡ r) × (q.client ≡ c) × IsStoreRow act
IsStore r c _ = ⊥

-- the graph gave the request this way
abbrev pub IsRouteRow : {stage : Stage} → Act stage → Route → Type 0
IsRouteRow (Routes given) route = given ≡ route
IsRouteRow _ route = ⊥

abbrev pub IsRouted : ℕ → Route → Element → Type 0
IsRouted r route (Did s q act) = (s ≡ r) × IsRouteRow act route
IsRouted r route _ = ⊥

-- the answers HeldBy and Taken of a Hold or Store, Strange of List, Start and End, NotHeld of Free
abbrev pub IsOdd : Wait → Type 0
IsOdd (HeldBy j) = Unit {0}
IsOdd (Taken b) = Unit {0}
IsOdd Strange = Unit {0}
IsOdd NotHeld = Unit {0}
IsOdd _ = ⊥

abbrev pub IsOddRow : {stage : Stage} → Act stage → Type 0
IsOddRow (Waits wait) = IsOdd wait
IsOddRow _ = ⊥

-- such an answer, or NotAttached of a session's Detach
abbrev pub IsOddStep : Element → Type 0
IsOddStep (Did s q act) = IsOddRow act
IsOddStep (NotAttached s e) = Unit {0}
IsOddStep _ = ⊥

-- a block entry of a request on block b: a row of Load, Hold, Store or Free
abbrev pub IsEntry : ℕ → ℕ → Client → ℕ → Element → Type 0
IsEntry A r c b (Did s q act) = (s ≡ r) × (q.client ≡ c) × (block_of A q.client act ≡ Some b)
IsEntry A r c b _ = ⊥
