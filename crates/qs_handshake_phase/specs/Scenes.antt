-- A handshake phase with its wire and its book, and what a run of events does to all three.
use Rattle.std.specs.Prelude.{◌≡◌, ℕ, true, List, [], ◌++◌, Option, Some, None}
use Rattle.qs_nbd_handshake.specs.Phases.{CanFeed, Phase, Reader, opening_reader}
use Rattle.qs_nbd_wire.specs.Greetings.{greeting_bytes}
use Rattle.qs_task.specs.Books.{Book}
use Rattle.qs_wire_stream.specs.Currents.{Advanced, Current, current}
use Rattle.qs_wire_stream.specs.Pending.{WireBuffers}
use Rattle.qs_serving.specs.Scenes.{FaultRose, TakesAll}
use Rattle.qs_handshake_phase.specs.declared.end.HandshakeEnd.{HandshakeEnd}
use Rattle.qs_handshake_phase.specs.declared.end.HandshakeEnd.TheVariants as over
use Rattle.qs_handshake_phase.specs.Greetings.{Closed, GreetingEvent, GreetingRuns, Serves, Stand, Talks, calls_of, given_out, has_break, has_stop, taken_in}
use Rattle.qs_handshake_phase.specs.Tellings.{noted_calls}

-- how a session stands, by what it keeps
abbrev pub stand_of : Reader → Option HandshakeEnd → Stand
stand_of reader None = Talks reader
stand_of reader (Some (over.Serves mode e)) = Serves mode e
stand_of reader (Some (over.Closed end)) = Closed end

-- while options are read, none waits for its answer
abbrev pub FeedsOn : Option HandshakeEnd → Phase → Type 0
FeedsOn None phase = CanFeed phase
FeedsOn (Some over) phase = Unit {0}

-- the reader of a session's options, how its handshake ended, if it has, and its stream
pub record PhaseValue (W : Type 0) : Type 0 where
  pub reader : Reader
  pub over : Option HandshakeEnd
  pub stream : WireBuffers W

-- a handshake that begins: the greeting waits to be written
abbrev pub greeting_value : {W : Type 0} → W → ℕ → PhaseValue W
greeting_value wire room = record {
  reader = opening_reader;
  over = None;
  stream = record { wire = wire; waiting = []; held = greeting_bytes; room = room };
}

pub record GreetingScene : Type 0 where
  pub stand : Stand
  pub current : Current
  pub book : Book

-- a phase and its book, by the meanings of its wire
abbrev pub greeting_scene : {W : Type 0} → (W → Option (List ℕ)) → (W → Option (List ℕ)) → (W → ℕ) → (W → ℕ) →
    (W → ℕ) → Book → PhaseValue W → GreetingScene
greeting_scene left sent read_faults write_faults waits book p = record {
  stand = stand_of p.reader p.over;
  current = current left sent read_faults write_faults waits p.stream;
  book = book;
}

-- These events led from one scene to the other. Their bytes were taken off the input and put to the output. Where the
-- input ended, they are all that there was; the wire failed only where a count rose. Just their calls were noted.
pub record GreetsOn (es : List GreetingEvent) (old new : GreetingScene) : Type 0 where
  pub runs : GreetingRuns old.stand es new.stand
  pub advanced : Advanced (taken_in es) (given_out es) old.current new.current
  pub at_end : has_stop es ≡ true → TakesAll old.current.left old.current.waiting (taken_in es)
  pub cause : has_break es ≡ true → FaultRose old.current new.current
  pub booked : new.book ≡ noted_calls (calls_of es) old.book

-- some events led from one scene to the other
pub record GreetsSome (old new : GreetingScene) : Type 0 where
  pub events : List GreetingEvent
  pub greets : GreetsOn events old new

-- events that went on behind others are events that went on
abbrev pub GreetingJoins : Type 0
GreetingJoins = (a b c : GreetingScene) (es fs : List GreetingEvent) → GreetsOn es a b → GreetsOn fs b c →
    GreetsOn (es ++ fs) a c
