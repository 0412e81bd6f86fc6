-- What the events of a transmission phase tell of its requests, its bytes and its end.
use Rattle.std.specs.Prelude.{◌≡◌, ℕ, ◌+◌, Bool, true, false, List, [], ◌∷◌, ◌++◌, map, Some}
use Rattle.std.specs.List.{flat_map}
use Rattle.qs_bytes.specs.declared.ask.Ask.{Ask}
use Rattle.qs_nbd_transmission.specs.Phases.{InHead}
use Rattle.qs_nbd_transmission.specs.Sessions.{Gave, ReaderCall, TellsEvents, Took, told_by}
use Rattle.qs_nbd_transmission.specs.declared.event.WireEvent.TheVariants.{Head, Bad}
use Rattle.qs_part.specs.declared.graph.GraphReply.{GraphReply}
use Rattle.qs_request_state.specs.declared.shape.Shape.{Shape}
use Rattle.qs_task.specs.Crews.{Answered, Began, Called, CrewEvent, HasWalk, Left, no_crew}
use Rattle.qs_task.specs.Tasks.{TaskValue}
use Rattle.qs_serving.specs.Answers.{answer_bytes, is_fault}
use Rattle.qs_serving.specs.Events.{ServingEvent, AnswerGiven, AnswerLost, BeganTask, CallMade, CalledDetach, GaveRoom, InputStopped, TookBytes, WireBroke, given_out, taken_in}
use Rattle.qs_serving.specs.Steps.{Announced, Entire, NoneYet, ServingRuns, ServingValue, Upcoming, first_value}

abbrev pub left_events : Bool → List CrewEvent
left_events true = Left ∷ []
left_events false = []

-- what happened to the live requests
abbrev pub crew_events : List ServingEvent → List CrewEvent
crew_events [] = []
crew_events (TookBytes bytes (Some (Bad bad)) ∷ es) = left_events (is_fault bad) ++ crew_events es
crew_events (BeganTask t ∷ es) = Began t ∷ crew_events es
crew_events (CallMade c ∷ es) = Called c ∷ crew_events es
crew_events (AnswerGiven n ask v reply ∷ es) = Answered n v ∷ crew_events es
crew_events (AnswerLost n ask v ∷ es) = Answered n v ∷ Left ∷ crew_events es
crew_events (InputStopped end ∷ es) = left_events (is_fault end) ++ crew_events es
crew_events (WireBroke ∷ es) = Left ∷ crew_events es
crew_events (e ∷ es) = crew_events es

-- the calls of the reader
abbrev pub reader_calls : List ServingEvent → List ReaderCall
reader_calls [] = []
reader_calls (TookBytes bytes told ∷ es) = Took bytes told ∷ reader_calls es
reader_calls (GaveRoom room ∷ es) = Gave room ∷ reader_calls es
reader_calls (e ∷ es) = reader_calls es

-- the requests that began, in their order
abbrev pub begun_by : List ServingEvent → List TaskValue
begun_by [] = []
begun_by (BeganTask t ∷ es) = t ∷ begun_by es
begun_by (e ∷ es) = begun_by es

-- they have the numbers from this one on
abbrev pub IsNumbered : ℕ → List TaskValue → Type 0
IsNumbered first [] = Unit {0}
IsNumbered first (t ∷ ts) = (t.number ≡ first) × IsNumbered (first + 1) ts

-- what the heads asked for, in their order
abbrev pub heads_told : List ServingEvent → List Ask
heads_told [] = []
heads_told (TookBytes bytes (Some (Head ask)) ∷ es) = ask ∷ heads_told es
heads_told (e ∷ es) = heads_told es

-- what was asked for and hasn't begun
abbrev pub asks_ahead : Upcoming → List Ask
asks_ahead NoneYet = []
asks_ahead (Announced ask) = ask ∷ []
asks_ahead (Entire ask body) = ask ∷ []

-- the replies that were put, in the order of the answers
abbrev pub replies_put : Bool → List ServingEvent → List ℕ
replies_put structured [] = []
replies_put structured (AnswerGiven n ask v reply ∷ es) = answer_bytes structured ask v ++ replies_put structured es
replies_put structured (e ∷ es) = replies_put structured es

-- the session stopped being a client of its export
abbrev pub has_detach : List ServingEvent → Bool
has_detach [] = false
has_detach (CalledDetach e reply ∷ es) = true
has_detach (e ∷ es) = has_detach es

-- and did so once, as its last event
pub record DetachesLast (export : ℕ) (es : List ServingEvent) : Type 0 where
  pub before : List ServingEvent
  pub reply : GraphReply
  pub all : es ≡ before ++ CalledDetach export reply ∷ []
  pub once : has_detach before ≡ false

-- The story of a transmission phase. The calls of each number are the walk of its request, each once, up to its answer
-- or to where it is. What the reader took and told is what its messages say, each told once and in order. Requests have
-- the numbers 1, 2 and on, in the order in which their heads came, and each head is that of a request that began, or of
-- the one that is being read. The bytes put are the replies in the order of the answers. The session leaves its export
-- once, and then nothing more happens.
pub record ServingStory (export : ℕ) (structured : Bool) (shape : Shape) (es : List ServingEvent) (v : ServingValue) : Type 0 where
  pub walks : (n : ℕ) → HasWalk shape n (crew_events es) v.crew
  pub tells : TellsEvents structured v.reader.phase (taken_in es) (flat_map told_by (reader_calls es))
  pub numbered : IsNumbered 1 (begun_by es)
  pub asked : heads_told es ≡ map (λ t. t.request.client.ask) (begun_by es) ++ asks_ahead v.next
  pub replied : given_out es ≡ replies_put structured es
  pub stays : v.detached ≡ false → has_detach es ≡ false
  pub leaves : v.detached ≡ true → DetachesLast export es

-- whatever happens in a transmission phase, from its first event on
abbrev pub ServingTells : Type 0
ServingTells = (export : ℕ) (structured : Bool) (shape : Shape) (es : List ServingEvent) (v : ServingValue) →
    ServingRuns (first_value export (record { structured = structured; phase = InHead [] }) (no_crew shape)) es v →
    ServingStory export structured shape es v
