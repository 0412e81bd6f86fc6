-- The next event of the input.
use Rattle.std.specs.Prelude.{◌≡◌, ℕ, List, [], ◌++◌, Option, None, Some, IfNone, Result, Ok, Err}
use Rattle.qs_nbd_handshake.specs.Phases.{Reader, Reaches}
use Rattle.qs_nbd_handshake.specs.declared.event.HandEvent.{HandEvent}
use Rattle.qs_stream.specs.Flows.{Flow, IsUsedUp, Moved, Tells}

-- the handshake took a front of the bytes that wait, all of them where it found nothing
pub record Feeds (old : Reader) (waiting : List ℕ) (found : Option HandEvent) (new : Reader)
    (waiting' : List ℕ) : Type 0 where
  pub taken : List ℕ
  pub joined : waiting ≡ taken ++ waiting'
  pub reaches : Reaches old taken found new
  pub whole : IfNone found (waiting' ≡ [])

-- Bytes lead on; at their end the event, or the input's end. Where the stream failed, no event came.
abbrev pub Finds : {E : Type 0} → Reader → List ℕ → Result (Option HandEvent) E → Reader → Flow → Type 0
Finds old taken (Ok (Some found)) new after = Reaches old taken (Some found) new
Finds old taken (Ok None) new after = Reaches old taken None new × IsUsedUp after
Finds old taken (Err e) new after = Reaches old taken None new

-- the next event was sought in the input
pub record Seeks {E : Type 0} (old : Reader) (before : Flow) (result : Result (Option HandEvent) E) (new : Reader)
    (after : Flow) : Type 0 where
  pub taken : List ℕ
  pub moved : Moved taken [] before after
  pub tells : Tells result after.stream.state
  pub finds : Finds old taken result new after
