-- The positions that nothing on the disks may be older than: those of a flush, of a write with FUA, of a stripe's sync.
use Rattle.std.specs.Prelude.{◌≡◌, ℕ, true, List, [], ◌∷◌, ◌++◌, Some}
use Rattle.qs_bytes.specs.declared.ask.Kind.TheVariants.{Flush}
use Rattle.qs_bytes.specs.declared.ask.Verdict.{Verdict}
use Rattle.qs_bytes.specs.declared.ask.Verdict.TheVariants.{Got, Fine}
use Rattle.qs_cells.specs.declared.cell.CellEntry.TheVariants.{Write}
use Rattle.qs_model.specs.Requests.{Client, Stage, covers}
use Rattle.qs_model.specs.Acts.{Act, Enters, Syncs, Cleans, Element, Did}
use Rattle.qs_model.specs.Histories.{Acts, Answered, answer_of, cell_at}
use Rattle.qs_model.specs.Laws.{Begins, ComesBehind}
use Rattle.qs_verdicts.specs.Verdicts.{is_forced}

-- the request with this number enters
abbrev pub IsEnterRow : {stage : Stage} → Act stage → Type 0
IsEnterRow (Enters k) = Unit {0}
IsEnterRow _ = ⊥

abbrev pub IsEnter : ℕ → Element → Type 0
IsEnter r (Did s q act) = (s ≡ r) × IsEnterRow act
IsEnter r _ = ⊥

-- A FLUSH that was reached: it entered behind the steps `entered`, and was answered Fine by the final one of the
-- steps `answered`.
pub record ReachedFlush (entered answered : List Element) : Type 0 where
  pub number : ℕ
  pub client : Client
  pub flush : client.ask.kind ≡ Flush
  pub enter : Element
  pub enters : IsEnter number enter
  pub between : List Element
  pub answer : Element
  pub fine : Answered number client Fine answer
  pub course : answered ≡ entered ++ enter ∷ (between ++ answer ∷ [])

-- request r did each of these steps
abbrev pub AreOwn : ℕ → List Element → Type 0
AreOwn r [] = Unit {0}
AreOwn r (e ∷ es) = Acts r e × AreOwn r es

-- the final one of these steps is a write of the byte at x by request r
pub record HasWritten (A x r : ℕ) (steps : List Element) : Type 0 where
  pub front : List Element
  pub write : Element
  pub value : ℕ
  pub entry : cell_at A x write ≡ Write r value ∷ []
  pub course : steps ≡ front ++ write ∷ []

-- a request is acknowledged where it is answered Got or Fine
abbrev pub IsSuccess : Verdict → Type 0
IsSuccess (Got bytes) = Unit {0}
IsSuccess Fine = Unit {0}
IsSuccess _ = ⊥

abbrev pub Acknowledges : ℕ → Element → Type 0
Acknowledges r (Did s q act) = (s ≡ r) × ((v : Verdict) × ((answer_of q.dropped act ≡ Some v) × IsSuccess v))
Acknowledges r _ = ⊥

-- The final one of the steps `written` is a write of the byte at x, and its request was acknowledged before the
-- position `entered`.
pub record Acknowledged (A x : ℕ) (written entered : List Element) : Type 0 where
  pub number : ℕ
  pub wrote : HasWritten A x number written
  pub before : Begins written entered
  pub position : List Element
  pub answer : Element
  pub stands : ComesBehind position answer entered
  pub acknowledged : Acknowledges number answer

-- A WRITE or WRITE_ZEROES with FUA that covers x: the byte was written by the final one of the steps `written`, and
-- the request was answered Fine by the final one of the steps `answered`.
pub record Forced (A x : ℕ) (written answered : List Element) : Type 0 where
  pub number : ℕ
  pub client : Client
  pub forced : is_forced client.ask ≡ true
  pub covered : covers client x ≡ true
  pub wrote : HasWritten A x number written
  pub between : List Element
  pub answer : Element
  pub fine : Answered number client Fine answer
  pub course : answered ≡ written ++ (between ++ answer ∷ [])

-- Behind the steps `answered` the byte at x may not be older than a position: than any up to which a FLUSH that was
-- reached hadn't entered; than a write of the byte that was acknowledged before that; than a write of the byte by a
-- request with FUA that is Fine; and than the answer of a FLUSH that was reached, where nothing but the FLUSH did a
-- step from its Enter to its answer.
pub data IsBound : (A x : ℕ) (position answered : List Element) → Type 0 where
  Flushed : {A x : ℕ} {entered answered : List Element} → ReachedFlush entered answered → IsBound A x entered answered
  WrittenBefore : {A x : ℕ} {written entered answered : List Element} → Acknowledged A x written entered →
      ReachedFlush entered answered → IsBound A x written answered
  WrittenThrough : {A x : ℕ} {written answered : List Element} → Forced A x written answered →
      IsBound A x written answered
  FlushedAlone : {A x : ℕ} {entered answered : List Element} → (f : ReachedFlush entered answered) →
      AreOwn f.number f.between → IsBound A x answered answered

-- stripe s was synced in this step, or had nothing to be synced
abbrev pub IsSyncedRow : ℕ → {stage : Stage} → Act stage → Type 0
IsSyncedRow s (Syncs {s = t}) = t ≡ s
IsSyncedRow s (Cleans {s = t}) = t ≡ s
IsSyncedRow s _ = ⊥

abbrev pub IsSynced : ℕ → Element → Type 0
IsSynced s (Did r q act) = IsSyncedRow s act
IsSynced s _ = ⊥

-- some step, from the position `since` on, synced stripe s
pub record SyncedSince (s : ℕ) (since steps : List Element) : Type 0 where
  pub position : List Element
  pub sync : Element
  pub later : Begins since position
  pub before : ComesBehind position sync steps
  pub synced : IsSynced s sync
