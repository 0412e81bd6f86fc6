-- The transmission phase as a value, and what each event makes of it.
use Rattle.std.specs.Prelude.{◌≡◌, ◌≢◌, ℕ, ◌+◌, Bool, true, false, if◌then◌else◌, List, [], ◌∷◌, map, Option, Some, None, IsSome}
use Rattle.std.specs.Option.{option_map}
use Rattle.qs_bytes.specs.declared.ask.Ask.{Ask}
use Rattle.qs_bytes.specs.declared.ask.Verdict.{Verdict}
use Rattle.qs_model.specs.Requests.{Req, is_read, new_request}
use Rattle.qs_nbd_transmission.specs.declared.event.Room.{Room}
use Rattle.qs_nbd_transmission.specs.declared.event.Room.TheVariants.{Keep, Drop}
use Rattle.qs_nbd_transmission.specs.declared.event.WireEvent.{WireEvent}
use Rattle.qs_nbd_transmission.specs.declared.event.WireEvent.TheVariants.{Head, Body, Disc, Bad}
use Rattle.qs_nbd_transmission.specs.Heads.{has_data}
use Rattle.qs_nbd_transmission.specs.Phases.{CanGive, Phase, Reaches, Reader, end_at, phase_with_room}
use Rattle.qs_part.specs.declared.graph.GraphOp.TheVariants.{Detach}
use Rattle.qs_part.specs.declared.graph.GraphReply.{GraphReply}
use Rattle.qs_request.specs.Value.{client_for}
use Rattle.qs_request_state.specs.declared.shape.Blocks.{Blocks}
use Rattle.qs_status.specs.declared.status.SessionEnd.{SessionEnd}
use Rattle.qs_status.specs.declared.status.SessionEnd.TheVariants.{Done, LinkFault}
use Rattle.qs_task.specs.Books.{RequestCall}
use Rattle.qs_task.specs.Crews.{Began, Called, Answered, CrewStep, CrewValue, abandoned_task, live_by_number}
use Rattle.qs_task.specs.Tasks.{TaskValue}
use Rattle.qs_serving.specs.Answers.{answer_bytes, end_after, end_for_memory, is_fault}
use Rattle.qs_serving.specs.Events.{ServingEvent, TookBytes, GaveRoom, BeganTask, CallMade, AnswerGiven, AnswerLost, InputStopped, WireBroke, CalledDetach}
use Rattle.qs_serving.specs.Graphs.{GraphMay}

-- The request that begins next: none is known; the head of this one came, and its data are awaited; or it came whole,
-- with its data where they were kept.
pub data Upcoming : Type 0 where
  NoneYet : Upcoming
  Announced : Ask → Upcoming
  Entire : Ask → Option (List ℕ) → Upcoming

-- The place of the session's export, the reader of its requests, the request that begins next, the live ones, how the
-- session will end where nothing more begins, and whether it has stopped being a client of its export.
pub record ServingValue : Type 0 where
  pub export : ℕ
  pub reader : Reader
  pub next : Upcoming
  pub crew : CrewValue
  pub ended : Option SessionEnd
  pub detached : Bool

-- the phase as it begins: the first request is awaited
abbrev pub first_value : ℕ → Reader → CrewValue → ServingValue
first_value export reader crew = record {
  export = export;
  reader = reader;
  next = NoneYet;
  crew = crew;
  ended = None;
  detached = false;
}

abbrev pub left_if : Bool → CrewValue → CrewValue
left_if true crew = record crew { live = map abandoned_task crew.live }
left_if false crew = crew

-- nothing more begins, and the session will end so; after a fault its live requests are abandoned
abbrev pub closed_as : SessionEnd → ServingValue → ServingValue
closed_as end v = record v { ended = Some end; crew = left_if (is_fault end) v.crew }

abbrev pub kept_in : Room → Option (List ℕ)
kept_in (Keep buffer) = Some buffer
kept_in (Drop count) = None

-- what is told of the next request
abbrev pub next_after : Option WireEvent → Upcoming → Upcoming
next_after (Some (Head ask)) next = if has_data ask then Announced ask else Entire ask None
next_after (Some (Body room)) (Announced ask) = Entire ask (kept_in room)
next_after _ next = next

-- a DISC and a refusal end the session
abbrev pub closed_by : Option WireEvent → ServingValue → ServingValue
closed_by (Some Disc) v = closed_as Done v
closed_by (Some (Bad bad)) v = closed_as bad v
closed_by _ v = v

abbrev pub told_value : Option WireEvent → Phase → ServingValue → ServingValue
told_value told phase v =
    closed_by told (record v { reader = record v.reader { phase = phase }; next = next_after told v.next })

-- no request came whole that hasn't begun
abbrev pub MayRead : Upcoming → Type 0
MayRead NoneYet = Unit {0}
MayRead (Announced ask) = Unit {0}
MayRead (Entire ask body) = ⊥

-- the reader took bytes, while the session goes on
pub record TakesIn (v : ServingValue) (bytes : List ℕ) (told : Option WireEvent) (new : ServingValue) : Type 0 where
  pub going : v.ended ≡ None
  pub begun : MayRead v.next
  pub reaches : Reaches v.reader.structured v.reader.phase bytes told new.reader.phase
  pub is : new ≡ told_value told new.reader.phase v

-- it was given room for the data that are awaited
pub record GivesRoom (v : ServingValue) (room : Room) (new : ServingValue) : Type 0 where
  pub going : v.ended ≡ None
  pub can : CanGive v.reader.phase room
  pub is : new ≡ record v { reader = record v.reader { phase = phase_with_room v.reader.phase room } }

-- A request as it was read: what it asks for, and the data of a WRITE, where they were kept. A READ may have a buffer.
pub record IsAsRead (export : ℕ) (ask : Ask) (body : Option (List ℕ)) (q : Req) : Type 0 where
  pub given : Option (List ℕ)
  pub blocks : Option Blocks
  pub data_are : is_read ask.kind ≡ false → given ≡ body
  pub is : q ≡ new_request (client_for 0 ask export given blocks)

-- the request that came whole begins, with the next number
pub record BeginsNext (v : ServingValue) (t : TaskValue) (new : ServingValue) : Type 0 where
  pub ask : Ask
  pub body : Option (List ℕ)
  pub going : v.ended ≡ None
  pub next : v.next ≡ Entire ask body
  pub number : t.number ≡ v.crew.newest + 1
  pub read : IsAsRead v.export ask body t.request
  pub step : CrewStep v.crew (Began t) new.crew
  pub is : new ≡ record v { next = NoneYet; crew = new.crew }

-- a live request makes its next call
pub record MakesNext (v : ServingValue) (c : RequestCall) (new : ServingValue) : Type 0 where
  pub step : CrewStep v.crew (Called c) new.crew
  pub is : new ≡ record v { crew = new.crew }

-- a live request is answered: what it asked for has this reply
pub record GivesReply (v : ServingValue) (n : ℕ) (ask : Ask) (verdict : Verdict) (reply : List ℕ)
    (new : ServingValue) : Type 0 where
  pub asked : option_map (λ q. q.client.ask) (live_by_number n v.crew.live) ≡ Some ask
  pub step : CrewStep v.crew (Answered n verdict) new.crew
  pub reply_is : reply ≡ answer_bytes v.reader.structured ask verdict
  pub is : new ≡ record v { crew = new.crew; ended = end_after verdict v.ended }

-- a live request is answered, and for want of memory its reply is lost, and the session ends
pub record LosesReply (v : ServingValue) (n : ℕ) (ask : Ask) (verdict : Verdict) (new : ServingValue) : Type 0 where
  pub asked : option_map (λ q. q.client.ask) (live_by_number n v.crew.live) ≡ Some ask
  pub crew : CrewValue
  pub step : CrewStep v.crew (Answered n verdict) crew
  pub is : new ≡ closed_as (end_for_memory v.ended) (record v { crew = crew })

-- the input ended, while the session goes on
pub record StopsAt (v : ServingValue) (end : SessionEnd) (new : ServingValue) : Type 0 where
  pub going : v.ended ≡ None
  pub at_end : end ≡ end_at v.reader.phase
  pub is : new ≡ closed_as end v

-- the wire failed, for the first time
pub record BreaksOff (v new : ServingValue) : Type 0 where
  pub whole : v.ended ≢ Some LinkFault
  pub there : v.detached ≡ false
  pub is : new ≡ closed_as LinkFault v

-- the session has ended and none of its requests is live: it stops being a client of its export, once
pub record DetachesAt (v : ServingValue) (e : ℕ) (reply : GraphReply) (new : ServingValue) : Type 0 where
  pub ended : IsSome v.ended
  pub none : v.crew.live ≡ []
  pub there : v.detached ≡ false
  pub export : e ≡ v.export
  pub may : GraphMay (Detach e) reply
  pub is : new ≡ record v { detached = true }

-- what an event makes of the phase
abbrev pub ServingStep : ServingValue → ServingEvent → ServingValue → Type 0
ServingStep v (TookBytes bytes told) new = TakesIn v bytes told new
ServingStep v (GaveRoom room) new = GivesRoom v room new
ServingStep v (BeganTask t) new = BeginsNext v t new
ServingStep v (CallMade c) new = MakesNext v c new
ServingStep v (AnswerGiven n ask verdict reply) new = GivesReply v n ask verdict reply new
ServingStep v (AnswerLost n ask verdict) new = LosesReply v n ask verdict new
ServingStep v (InputStopped end) new = StopsAt v end new
ServingStep v WireBroke new = BreaksOff v new
ServingStep v (CalledDetach e reply) new = DetachesAt v e reply new

abbrev pub ServingRuns : ServingValue → List ServingEvent → ServingValue → Type 0
ServingRuns v [] new = new ≡ v
ServingRuns v (e ∷ es) new = (mid : ServingValue) × ServingStep v e mid × ServingRuns mid es new
