-- The handshake phase of a session as a value, and what each event makes of it.
use Rattle.std.specs.Prelude.{◌≡◌, ◌≢◌, ℕ, Bool, true, false, List, [], ◌∷◌, ◌++◌, Option, Some, None}
use Rattle.qs_bytes.specs.declared.ask.Mode.{Mode}
use Rattle.qs_nbd_handshake.specs.Answers.{CanTell, hand_step_of, reader_behind, text_of}
use Rattle.qs_nbd_handshake.specs.Phases.{Asked, CanFeed, Reaches, Reader, end_at}
use Rattle.qs_nbd_handshake.specs.Wishes.{want_of}
use Rattle.qs_nbd_handshake.specs.declared.event.HandEvent.{HandEvent}
use Rattle.qs_nbd_handshake.specs.declared.event.HandEvent.TheVariants.{Bad}
use Rattle.qs_nbd_handshake.specs.declared.event.HandStep.{HandStep}
use Rattle.qs_nbd_handshake.specs.declared.event.HandStep.TheVariants as step
use Rattle.qs_nbd_handshake.specs.declared.event.Told.{Told}
use Rattle.qs_nbd_handshake.specs.declared.wish.Wish.{Wish}
use Rattle.qs_status.specs.declared.status.SessionEnd.{SessionEnd}
use Rattle.qs_status.specs.declared.status.SessionEnd.TheVariants.{LinkFault, Memory}
use Rattle.qs_task.specs.Books.{Book}
use Rattle.qs_handshake_phase.specs.Tellings.{LosesFor, OwnCall, TellsFor, noted_calls}

-- Talks: options are read and answered. Serves: requests follow in this mode, and the session is a client of the export
-- at this place. Closed: the session has ended so, and is no client.
pub data Stand : Type 0 where
  Talks : Reader → Stand
  Serves : Mode → (e : ℕ) → Stand
  Closed : SessionEnd → Stand

-- TookBytes: the reader took these off the input, and told this at their end. OptionAnswered: for the option that came
-- these calls were made, this was told, and this text put. OptionLost: for it these calls were made, and memory was
-- refused for its answer. InputStopped: the input ended. WireBroke: the wire failed.
pub data GreetingEvent : Type 0 where
  TookBytes : (bytes : List ℕ) → Option HandEvent → GreetingEvent
  OptionAnswered : List OwnCall → Told → (text : List ℕ) → GreetingEvent
  OptionLost : List OwnCall → GreetingEvent
  InputStopped : SessionEnd → GreetingEvent
  WireBroke : GreetingEvent

-- a refusal ends the session
abbrev pub stand_told : Option HandEvent → Reader → Stand
stand_told (Some (Bad bad)) reader = Closed bad
stand_told other reader = Talks reader

-- the reader took bytes, while options are read
pub record TakesIn (s : Stand) (bytes : List ℕ) (told : Option HandEvent) (new : Stand) : Type 0 where
  pub before : Reader
  pub after : Reader
  pub talks : s ≡ Talks before
  pub awaits : CanFeed before.phase
  pub reaches : Reaches before bytes told after
  pub is : new ≡ stand_told told after

-- how a session stands behind an answer
abbrev pub StandsAfter : HandStep → Reader → Option ℕ → Stand → Type 0
StandsAfter step.Stay reader client new = new ≡ Talks reader
StandsAfter (step.Transmit mode) reader client new = (e : ℕ) × (client ≡ Some e) × (new ≡ Serves mode e)
StandsAfter (step.Close end) reader client new = new ≡ Closed end

-- the option that came is answered by what the graph told
pub record AnswersWish (s : Stand) (calls : List OwnCall) (told : Told) (text : List ℕ) (new : Stand) : Type 0 where
  pub reader : Reader
  pub wish : Wish
  pub client : Option ℕ
  pub talks : s ≡ Talks reader
  pub asked : reader.phase ≡ Asked wish
  pub tells : TellsFor (want_of wish) calls told client
  pub can : CanTell (want_of wish) told
  pub text_is : text ≡ text_of reader.terms.mode wish told
  pub stands : StandsAfter (hand_step_of reader.terms.mode wish told) (reader_behind reader.terms wish told) client new

-- for want of memory it isn't, and the session ends
pub record LosesWish (s : Stand) (calls : List OwnCall) (new : Stand) : Type 0 where
  pub reader : Reader
  pub wish : Wish
  pub talks : s ≡ Talks reader
  pub asked : reader.phase ≡ Asked wish
  pub loses : LosesFor (want_of wish) calls
  pub is : new ≡ Closed Memory

-- the input ended, while options are read
pub record StopsAt (s : Stand) (end : SessionEnd) (new : Stand) : Type 0 where
  pub reader : Reader
  pub talks : s ≡ Talks reader
  pub awaits : CanFeed reader.phase
  pub at_end : end ≡ end_at reader.phase
  pub is : new ≡ Closed end

-- a wire fails once, and not after requests follow
abbrev pub MayBreak : Stand → Type 0
MayBreak (Talks reader) = Unit {0}
MayBreak (Serves mode e) = ⊥
MayBreak (Closed end) = end ≢ LinkFault

-- what an event makes of the phase
abbrev pub GreetingStep : Stand → GreetingEvent → Stand → Type 0
GreetingStep s (TookBytes bytes told) new = TakesIn s bytes told new
GreetingStep s (OptionAnswered calls told text) new = AnswersWish s calls told text new
GreetingStep s (OptionLost calls) new = LosesWish s calls new
GreetingStep s (InputStopped end) new = StopsAt s end new
GreetingStep s WireBroke new = MayBreak s × (new ≡ Closed LinkFault)

abbrev pub GreetingRuns : Stand → List GreetingEvent → Stand → Type 0
GreetingRuns s [] new = new ≡ s
GreetingRuns s (e ∷ es) new = (mid : Stand) × GreetingStep s e mid × GreetingRuns mid es new

-- the bytes that were taken off the input
abbrev pub taken_in : List GreetingEvent → List ℕ
taken_in [] = []
taken_in (TookBytes bytes told ∷ es) = bytes ++ taken_in es
taken_in (e ∷ es) = taken_in es

-- the answers that were put, in their order
abbrev pub given_out : List GreetingEvent → List ℕ
given_out [] = []
given_out (OptionAnswered calls told text ∷ es) = text ++ given_out es
given_out (e ∷ es) = given_out es

-- the calls of the graph, in their order
abbrev pub calls_of : List GreetingEvent → List OwnCall
calls_of [] = []
calls_of (OptionAnswered calls told text ∷ es) = calls ++ calls_of es
calls_of (OptionLost calls ∷ es) = calls ++ calls_of es
calls_of (e ∷ es) = calls_of es

-- the input ended
abbrev pub has_stop : List GreetingEvent → Bool
has_stop [] = false
has_stop (InputStopped end ∷ es) = true
has_stop (e ∷ es) = has_stop es

-- the wire failed
abbrev pub has_break : List GreetingEvent → Bool
has_break [] = false
has_break (WireBroke ∷ es) = true
has_break (e ∷ es) = has_break es
