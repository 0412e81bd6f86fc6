-- What happens in the transmission phase of a session.
use Rattle.std.specs.Prelude.{ℕ, Bool, true, false, List, [], ◌∷◌, ◌++◌, Option}
use Rattle.qs_bytes.specs.declared.ask.Ask.{Ask}
use Rattle.qs_bytes.specs.declared.ask.Verdict.{Verdict}
use Rattle.qs_nbd_transmission.specs.declared.event.Room.{Room}
use Rattle.qs_nbd_transmission.specs.declared.event.WireEvent.{WireEvent}
use Rattle.qs_part.specs.declared.graph.GraphOp.TheVariants.{Detach}
use Rattle.qs_part.specs.declared.graph.GraphReply.{GraphReply}
use Rattle.qs_status.specs.declared.status.SessionEnd.{SessionEnd}
use Rattle.qs_task.specs.Books.{Book, RequestCall, notes}
use Rattle.qs_task.specs.Tasks.{TaskValue}
use Rattle.qs_serving.specs.Graphs.{graph_noted}

-- TookBytes: the reader took these off the input, and told this at their end. GaveRoom: room was given for the data of
-- a WRITE. BeganTask: a request began. CallMade: a request made a call. AnswerGiven: a request was answered, and these
-- bytes were put. AnswerLost: a request was answered, and there was no memory for its reply. InputStopped: the input
-- ended. WireBroke: the wire failed. CalledDetach: the session stopped being a client of the export at this place.
pub data ServingEvent : Type 0 where
  TookBytes : (bytes : List ℕ) → Option WireEvent → ServingEvent
  GaveRoom : Room → ServingEvent
  BeganTask : TaskValue → ServingEvent
  CallMade : RequestCall → ServingEvent
  AnswerGiven : (n : ℕ) → Ask → Verdict → (reply : List ℕ) → ServingEvent
  AnswerLost : (n : ℕ) → Ask → Verdict → ServingEvent
  InputStopped : SessionEnd → ServingEvent
  WireBroke : ServingEvent
  CalledDetach : (e : ℕ) → GraphReply → ServingEvent

-- the bytes that were taken off the input
abbrev pub taken_in : List ServingEvent → List ℕ
taken_in [] = []
taken_in (TookBytes bytes told ∷ es) = bytes ++ taken_in es
taken_in (e ∷ es) = taken_in es

-- the bytes that were put to the output: the replies, in the order of the answers
abbrev pub given_out : List ServingEvent → List ℕ
given_out [] = []
given_out (AnswerGiven n ask v reply ∷ es) = reply ++ given_out es
given_out (e ∷ es) = given_out es

-- the calls, noted in their order
abbrev pub noted_all : List ServingEvent → Book → Book
noted_all [] book = book
noted_all (CallMade c ∷ es) book = noted_all es (notes c book)
noted_all (CalledDetach e reply ∷ es) book = noted_all es (graph_noted (Detach e) reply book)
noted_all (e ∷ es) book = noted_all es book

-- the input ended
abbrev pub has_stop : List ServingEvent → Bool
has_stop [] = false
has_stop (InputStopped end ∷ es) = true
has_stop (e ∷ es) = has_stop es

-- the wire failed
abbrev pub has_break : List ServingEvent → Bool
has_break [] = false
has_break (WireBroke ∷ es) = true
has_break (e ∷ es) = has_break es
