-- A turn of a session's handshake phase.
use Rattle.std.specs.Prelude.{◌≡◌, ◌⊎◌, List, [], ◌++◌, Option, Some, None}
use Rattle.std.specs.List.{flat_map}
use Rattle.qs_nbd_handshake.specs.Phases.{Reader, opening_reader}
use Rattle.qs_nbd_handshake.specs.Sessions.{TellsEvents, HandshakeCall, Took, Answered, told_by}
use Rattle.qs_outside.specs.Faults.{Rose}
use Rattle.qs_status.specs.declared.status.SessionEnd.TheVariants.{LinkFault}
use Rattle.qs_handshake_phase.specs.declared.end.HandshakeEnd.{HandshakeEnd}
use Rattle.qs_handshake_phase.specs.declared.end.HandshakeEnd.TheVariants as over
use Rattle.qs_handshake_phase.specs.Greetings.{Closed, GreetingEvent, OptionAnswered, Serves, TookBytes}
use Rattle.qs_handshake_phase.specs.Scenes.{GreetingScene, GreetsOn}

-- How a turn ends. It is pending only where the wire was found not ready in it. A session that has ended has written all
-- its answers, unless the wire failed.
abbrev pub TurnLeaves : Option HandshakeEnd → GreetingScene → GreetingScene → Type 0
TurnLeaves None old new = Rose old.current.waits new.current.waits
TurnLeaves (Some (over.Serves mode e)) old new = new.stand ≡ Serves mode e
TurnLeaves (Some (over.Closed end)) old new =
    (new.stand ≡ Closed end) × ((end ≡ LinkFault) ⊎ (new.current.held ≡ []))

-- what a turn does, and how it ends
pub record GreetingTurn (turned : Option HandshakeEnd) (old new : GreetingScene) : Type 0 where
  pub events : List GreetingEvent
  pub greets : GreetsOn events old new
  pub leaves : TurnLeaves turned old new
