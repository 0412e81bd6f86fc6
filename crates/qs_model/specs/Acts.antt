-- What can happen: one row of the request table at a time, and the events of sessions.
use Rattle.std.specs.Prelude.{ℕ, Bool, List, Option, Some, None}
use Rattle.qs_bytes.specs.declared.ask.Verdict.{Verdict}
use Rattle.qs_outside.specs.declared.rigged_disk.Fail.{Fail}
use Rattle.qs_part.specs.declared.graph.ExportInfo.{ExportInfo}
use Rattle.qs_part.specs.declared.graph.GraphOp.{GraphOp}
use Rattle.qs_part.specs.declared.graph.Route.{Route}
use Rattle.qs_part.specs.declared.stripe.Side.{Side}
use Rattle.qs_model.specs.Requests.{Client, Req, Stage, ToRoute, ToList, ToStart, ToLoad, ToHold, ToStore, ToSync, ToFree, ToEnd, Ready, Entering, In, edge}

-- an answer that isn't in the request table: the request stays where it is
pub data Wait : Type 0 where
  Quiesced : Wait
  Full : Wait
  NotYet : (n : ℕ) → Wait
  HeldBy : (j : ℕ) → Wait
  Taken : (b : ℕ) → Wait
  Strange : Wait
  NotHeld : Wait

-- The rows of the request table, by the stage of the request. What the part answered or its disk chose
-- stands in the row: the place, the way, the number of a listed span, the bytes of a block, whether a refused
-- store took all the same, and what a crash may leave of a stored block.
pub data Act : Stage → Type 0 where
  Answers : {v : Verdict} → Act (Ready v)
  Waits : {stage : Stage} → Wait → Act stage
  Enters : (k : ℕ) → Act Entering
  Routes : {k : ℕ} → Route → Act (In k ToRoute)
  Shuts : {k : ℕ} → Act (In k ToRoute)
  Lists : {k : ℕ} → (n : ℕ) → Act (In k ToList)
  Starts : {k : ℕ} → Act (In k ToStart)
  Loads : {k b : ℕ} {got : List ℕ} → (bytes : List ℕ) → Act (In k (ToLoad b got))
  LoadFails : {k b : ℕ} {got : List ℕ} → Act (In k (ToLoad b got))
  Holds : {k : ℕ} {side : Side} → (bytes : List ℕ) → Act (In k (ToHold side))
  HoldFails : {k : ℕ} {side : Side} → Act (In k (ToHold side))
  Stores : {k b : ℕ} → (bytes : List ℕ) (past : List (List ℕ)) → Act (In k (ToStore b))
  StoreFails : {k b : ℕ} → (bytes : List ℕ) (took : Bool) (past : List (List ℕ)) → Act (In k (ToStore b))
  Syncs : {k s : ℕ} → Act (In k (ToSync s))
  Cleans : {k s : ℕ} → Act (In k (ToSync s))
  SyncFails : {k s : ℕ} → Act (In k (ToSync s))
  Frees : {k : ℕ} {side : Side} → Act (In k (ToFree side))
  Ends : {k : ℕ} {v : Verdict} → Act (In k (ToEnd v))

-- One step of a run. A session attaches to the export at a place, is refused, leaves, is detached;
-- a request is made; a request, as it stands, does one row; an operation of the graph makes the export at a
-- place; a failure is planned for the disk of a stripe; a crash leaves these blocks.
pub data Element : Type 0 where
  Attached : (s : ℕ) (name : List ℕ) → ExportInfo → Element
  NoExport : (s : ℕ) (name : List ℕ) → Element
  Crowded : (s : ℕ) (name : List ℕ) → Element
  Left : (s e : ℕ) → Element
  Detached : (s e : ℕ) → Element
  NotAttached : (s e : ℕ) → Element
  Asked : (r : ℕ) → Client → Element
  Did : (r : ℕ) (q : Req) → Act q.stage → Element
  Exported : (op : GraphOp) (e : ℕ) → Element
  Planned : (j : ℕ) → Fail → Element
  Crashed : (left : ℕ → List ℕ) → Element

-- the block that a row's operation stands on, for the rows of Load, Hold, Store and Free
abbrev pub block_of : ℕ → Client → {stage : Stage} → Act stage → Option ℕ
block_of A c (Loads {b = b} bytes) = Some b
block_of A c (LoadFails {b = b}) = Some b
block_of A c (Holds {side = side} bytes) = Some (edge A c side)
block_of A c (HoldFails {side = side}) = Some (edge A c side)
block_of A c (Stores {b = b} bytes past) = Some b
block_of A c (StoreFails {b = b} bytes took past) = Some b
block_of A c (Frees {side = side}) = Some (edge A c side)
block_of A c _ = None
