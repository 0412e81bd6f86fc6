-- What the parts of a turn do.
use Rattle.std.specs.Prelude.{◌≡◌, ℕ, ◌⊎◌, List, [], ◌∷◌, ◌++◌, Option, Some, None, IsSome, Result, Ok, Err}
use Rattle.qs_bytes.specs.declared.memory.Memory.{Memory}
use Rattle.qs_nbd_handshake.specs.Answers.{CanTell, hand_step_of, reader_behind, text_of}
use Rattle.qs_nbd_handshake.specs.Phases.{Reaches, Reader}
use Rattle.qs_nbd_handshake.specs.declared.event.HandEvent.{HandEvent}
use Rattle.qs_nbd_handshake.specs.declared.event.HandStep.{HandStep}
use Rattle.qs_nbd_handshake.specs.declared.event.Told.{Told}
use Rattle.qs_nbd_handshake.specs.declared.event.Told.TheVariants as told
use Rattle.qs_nbd_handshake.specs.declared.event.Want.{Want}
use Rattle.qs_nbd_handshake.specs.declared.event.Want.TheVariants as want
use Rattle.qs_nbd_handshake.specs.declared.wish.Wish.{Wish}
use Rattle.qs_outside.specs.Faults.{Rose}
use Rattle.qs_part.specs.declared.graph.GraphOp.TheVariants as op
use Rattle.qs_status.specs.declared.status.SessionEnd.TheVariants.{LinkFault}
use Rattle.qs_task.specs.Books.{Book}
use Rattle.qs_wire_stream.specs.Pending.{WireBuffers}
use Rattle.qs_wire_stream.specs.declared.gathered.Sending.{Sending}
use Rattle.qs_wire_stream.specs.declared.gathered.Sending.TheVariants.{Written, NotReady, Failed}
use Rattle.qs_handshake_phase.specs.declared.asking.Telling.{Telling}
use Rattle.qs_handshake_phase.specs.declared.end.HandshakeEnd.{HandshakeEnd}
use Rattle.qs_handshake_phase.specs.declared.end.HandshakeEnd.TheVariants as over
use Rattle.qs_handshake_phase.specs.declared.turns.Round.{Round}
use Rattle.qs_handshake_phase.specs.declared.turns.Round.TheVariants as round
use Rattle.qs_handshake_phase.specs.Greetings.{Closed, GreetingEvent, GreetingStep, OptionAnswered, OptionLost, Talks, TookBytes, InputStopped, WireBroke, calls_of, given_out}
use Rattle.qs_handshake_phase.specs.Scenes.{FeedsOn, GreetingScene, GreetsOn, GreetsSome, stand_of}
use Rattle.qs_handshake_phase.specs.Tellings.{LosesFor, OwnCall, TellsFor, noted_calls}
use Rattle.qs_handshake_phase.specs.Turns.{TurnLeaves}

-- one who wanted to attach and was told of the export is a client of one
abbrev pub Joined : Want → Told → Option ℕ → Type 0
Joined (want.Attach name) (told.Info info) client = IsSome client
Joined w t client = Unit {0}

-- what is wanted was told by the graph
pub record TellsAll (want : Want) (telling : Telling) (old new : Book) : Type 0 where
  pub calls : List OwnCall
  pub tells : TellsFor want calls telling.told telling.client
  pub can : CanTell want telling.told
  pub joined : Joined want telling.told telling.client
  pub booked : new ≡ noted_calls calls old

-- or memory was refused for it
pub record LosesAll (want : Want) (old new : Book) : Type 0 where
  pub calls : List OwnCall
  pub loses : LosesFor want calls
  pub booked : new ≡ noted_calls calls old

abbrev pub AsksFor : Want → Result Telling Memory → Book → Book → Type 0
AsksFor want (Ok telling) old new = TellsAll want telling old new
AsksFor want (Err e) old new = LosesAll want old new

-- a session left the export that it was a client of, if it was one
abbrev pub LeftBy : Option ℕ → List OwnCall → Type 0
LeftBy None [] = Unit {0}
LeftBy None (c ∷ calls) = ⊥
LeftBy (Some e) [] = ⊥
LeftBy (Some e) (c ∷ []) = c.op ≡ op.Detach e
LeftBy (Some e) (c ∷ d ∷ calls) = ⊥

pub record LeavesExport (client : Option ℕ) (old new : Book) : Type 0 where
  pub calls : List OwnCall
  pub left : LeftBy client calls
  pub booked : new ≡ noted_calls calls old

-- an answer was put, or memory was refused for it
abbrev pub PutsAnswer : {W : Type 0} → Wish → Told → Result HandStep Memory → Reader → WireBuffers W → Reader →
    WireBuffers W → Type 0
PutsAnswer wish told (Ok step) old before new after =
    (step ≡ hand_step_of old.terms.mode wish told) × (new ≡ reader_behind old.terms wish told)
    × (after ≡ record before { held = before.held ++ text_of old.terms.mode wish told; room = after.room })
PutsAnswer wish told (Err e) old before new after = after ≡ record before { room = after.room }

-- an option was answered, or its answer was lost
abbrev pub IsAnswer : GreetingEvent → Type 0
IsAnswer (TookBytes bytes told) = ⊥
IsAnswer (OptionAnswered calls told text) = Unit {0}
IsAnswer (OptionLost calls) = Unit {0}
IsAnswer (InputStopped end) = ⊥
IsAnswer WireBroke = ⊥

pub record AnswersOption {W : Type 0} (old : Reader) (before : WireBuffers W) (book : Book) (over : Option HandshakeEnd)
    (new : Reader) (after : WireBuffers W) (book' : Book) : Type 0 where
  pub event : GreetingEvent
  pub answer : IsAnswer event
  pub step : GreetingStep (Talks old) event (stand_of new over)
  pub stream : after ≡ record before { held = before.held ++ given_out (event ∷ []); room = after.room }
  pub booked : book' ≡ noted_calls (calls_of (event ∷ [])) book
  pub feeds : FeedsOn over new.phase

-- the reader was fed what waited, up to what it told
pub record FeedsReader {W : Type 0} (old : Reader) (before : WireBuffers W) (told : Option HandEvent) (new : Reader)
    (after : WireBuffers W) : Type 0 where
  pub bytes : List ℕ
  pub reaches : Reaches old bytes told new
  pub waiting : before.waiting ≡ bytes ++ after.waiting
  pub rest : after ≡ record before { waiting = after.waiting }

abbrev pub IsServing : HandshakeEnd → Type 0
IsServing (over.Serves mode e) = Unit {0}
IsServing (over.Closed end) = ⊥

-- requests don't follow yet: what waits is written by the handshake
abbrev pub MayWrite : Option HandshakeEnd → Type 0
MayWrite None = Unit {0}
MayWrite (Some (over.Serves mode e)) = ⊥
MayWrite (Some (over.Closed end)) = Unit {0}

-- What waited was written, as far as it goes: all of it, or up to where the wire wasn't ready. Nothing else happened, but
-- where a write failed.
abbrev pub WritesAs : Sending → GreetingScene → GreetingScene → Type 0
WritesAs Written old new = GreetsOn [] old new × ((new.current.held ≡ []) ⊎ (new.stand ≡ Closed LinkFault))
WritesAs NotReady old new = GreetsOn [] old new × Rose old.current.waits new.current.waits
WritesAs Failed old new = GreetsSome old new

-- how a round ends: another follows, or with it the turn
abbrev pub RoundLeaves : Round → GreetingScene → GreetingScene → Type 0
RoundLeaves round.Goes old new = Unit {0}
RoundLeaves round.Waits old new = TurnLeaves None old new
RoundLeaves (round.Over over) old new = TurnLeaves (Some over) old new

pub record Rounds (end : Round) (old new : GreetingScene) : Type 0 where
  pub events : List GreetingEvent
  pub greets : GreetsOn events old new
  pub leaves : RoundLeaves end old new
