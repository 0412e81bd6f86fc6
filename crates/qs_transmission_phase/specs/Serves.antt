-- What the parts of a turn do.
use Rattle.std.specs.Prelude.{◌≡◌, ◌≢◌, ℕ, ◌<◌, ◌≤◌, ◌⊎◌, Bool, true, List, [], ◌∷◌, ◌++◌, Option, Some, None, IsSome}
use Rattle.qs_bytes.specs.declared.ask.Ask.{Ask}
use Rattle.qs_bytes.specs.declared.ask.Verdict.{Verdict}
use Rattle.qs_model.specs.Requests.{Req}
use Rattle.qs_nbd_transmission.specs.Phases.{Reaches, Reader}
use Rattle.qs_nbd_transmission.specs.declared.event.WireEvent.{WireEvent}
use Rattle.qs_outside.specs.Faults.{Rose}
use Rattle.qs_status.specs.declared.status.SessionEnd.{SessionEnd}
use Rattle.qs_task.specs.Books.{Book}
use Rattle.qs_task.specs.Crews.{CrewValue, live_by_number}
use Rattle.qs_task.specs.declared.need.Need.{Need}
use Rattle.qs_wire_stream.specs.Currents.{current}
use Rattle.qs_wire_stream.specs.Patience.{PatientValue}
use Rattle.qs_wire_stream.specs.Pending.{WireBuffers}
use Rattle.qs_wire_stream.specs.declared.gathered.Sending.{Sending}
use Rattle.qs_wire_stream.specs.declared.gathered.Sending.TheVariants.{Written, NotReady, Failed}
use Rattle.qs_part.specs.declared.graph.GraphReply.{GraphReply}
use Rattle.qs_serving.specs.declared.turned.Awaited.{Awaited}
use Rattle.qs_serving.specs.declared.turned.Awaited.TheVariants.{Wire, Part}
use Rattle.qs_serving.specs.declared.turned.SessionTurn.TheVariants.{Pending, Ended}
use Rattle.qs_serving.specs.Answers.{answer_bytes, end_after, end_for_memory, is_fault}
use Rattle.qs_serving.specs.Events.{ServingEvent, CalledDetach}
use Rattle.qs_serving.specs.Scenes.{ServesOn, ServingScene}
use Rattle.qs_serving.specs.Steps.{ServingValue, left_if}
use Rattle.qs_serving.specs.Turns.{IsSettled, IsUndue, LeavesAs, TurnLeaves, stopped_at}
use Rattle.qs_serving.specs.declared.turned.SessionTurn.{SessionTurn}
use Rattle.qs_transmission_phase.specs.Inside.{PhaseValue}

-- a phase and its book, by the meanings of its wire
abbrev pub phase_scene : {W : Type 0} → (W → Option (List ℕ)) → (W → Option (List ℕ)) → (W → ℕ) → (W → ℕ) → (W → ℕ) →
    Book →
    PhaseValue W → ServingScene
phase_scene left sent read_faults write_faults waits book p = record {
  value = p.value;
  current = current left sent read_faults write_faults waits p.stream;
  book = book;
}

-- some events led from one scene to the other
pub record ServesSome (old new : ServingScene) : Type 0 where
  pub events : List ServingEvent
  pub serves : ServesOn events old new

-- the session is at the same image, and no less a client of its export
pub record IsInPlace (old new : ServingValue) : Type 0 where
  pub shape : new.crew.shape ≡ old.crew.shape
  pub detached : new.detached ≡ old.detached

-- a reader was fed what waited, up to what it told
pub record FeedsReader {W : Type 0} (old : Reader) (before : WireBuffers W) (told : Option WireEvent) (new : Reader)
    (after : WireBuffers W) : Type 0 where
  pub bytes : List ℕ
  pub reaches : Reaches old.structured old.phase bytes told new.phase
  pub structured : new.structured ≡ old.structured
  pub waiting : before.waiting ≡ bytes ++ after.waiting
  pub rest : after ≡ record before { waiting = after.waiting }

-- an answer was replied to, or its reply was lost
abbrev pub RepliesOr : {W : Type 0} → Bool → Ask → Verdict → WireBuffers W → CrewValue → Option SessionEnd →
    WireBuffers W → CrewValue →
    Option SessionEnd → Type 0
RepliesOr structured ask v stream crew ended stream' crew' ended' =
    ((stream' ≡ record stream { held = stream.held ++ answer_bytes structured ask v; room = stream'.room })
    × (crew' ≡ crew)
    × (ended' ≡ end_after v ended))
    ⊎ ((stream' ≡ stream) × (crew' ≡ left_if (is_fault (end_for_memory ended)) crew)
    × (ended' ≡ Some (end_for_memory ended)))

-- what a poll of request n says it waits for
abbrev pub StoppedFor : ℕ → Option Need → List ServingEvent → ServingScene → Type 0
StoppedFor n None es new = Unit {0}
StoppedFor n (Some need) es new =
    IsSome (live_by_number n new.value.crew.live) × ((w : Option Need) → stopped_at n w es ≡ Some need)

-- a poll of request n, after which it waits for this, or is answered
pub record PollsNumber (n : ℕ) (wait : Option Need) (old new : ServingScene) : Type 0 where
  pub events : List ServingEvent
  pub serves : ServesOn events old new
  pub stopped : StoppedFor n wait events new
  pub others : (m : ℕ) → m ≢ n → (w : Option Need) → stopped_at m w events ≡ w
  pub still : (m : ℕ) → IsSome (live_by_number m new.value.crew.live) → IsSome (live_by_number m old.value.crew.live)
  pub stays : (m : ℕ) → m ≢ n → IsSome (live_by_number m old.value.crew.live) →
      IsSome (live_by_number m new.value.crew.live)

-- some live request up to a number waits for this, after its last call
abbrev pub WaitsUpTo : ℕ → Option Need → List ServingEvent → ServingScene → Type 0
WaitsUpTo last None es new = Unit {0}
WaitsUpTo last (Some need) es new =
    (n : ℕ) × (n ≤ last) × IsSome (live_by_number n new.value.crew.live) × (stopped_at n None es ≡ Some need)

-- the requests with numbers from 1 to `last` were polled: those that are live made a call that was answered by a wait
pub record PollsUpTo (last : ℕ) (wait : Option Need) (old new : ServingScene) : Type 0 where
  pub events : List ServingEvent
  pub serves : ServesOn events old new
  pub stopped : (m : ℕ) → 0 < m → m ≤ last → IsSome (live_by_number m new.value.crew.live) →
      IsSome (stopped_at m None events)
  pub waits : WaitsUpTo last wait events new

-- some live request waits for this, after its last call
abbrev pub WaitsSome : Option Need → List ServingEvent → ServingScene → Type 0
WaitsSome None es new = Unit {0}
WaitsSome (Some need) es new =
    (n : ℕ) × IsSome (live_by_number n new.value.crew.live) × (stopped_at n None es ≡ Some need)

-- each live request was polled, until it had to wait
pub record PollsEach (wait : Option Need) (old new : ServingScene) : Type 0 where
  pub events : List ServingEvent
  pub serves : ServesOn events old new
  pub stopped : (m : ℕ) (q : Req) → 0 < m → live_by_number m new.value.crew.live ≡ Some q →
      IsSome (stopped_at m None events)
  pub waits : WaitsSome wait events new

-- What waited was written, as far as it goes: all of it, or up to where the wire wasn't ready. Nothing else happened, but
-- where a write failed.
abbrev pub WritesAs : Sending → ServingScene → ServingScene → Type 0
WritesAs Written old new = ServesOn [] old new × (new.value ≡ old.value) × IsSettled new
WritesAs NotReady old new = ServesOn [] old new × (new.value ≡ old.value) × Rose old.current.waits new.current.waits
WritesAs Failed old new = ServesSome old new

-- the session stopped being a client of its export, and nothing else happened
pub record DetachesOnce (old new : ServingScene) : Type 0 where
  pub reply : GraphReply
  pub serves : ServesOn (CalledDetach old.value.export reply ∷ []) old new
  pub value : new.value ≡ record old.value { detached = true }
  pub current : new.current ≡ old.current

-- what is told of a wait: that of a request, or that none is live
abbrev pub AwaitsAs : Option Need → ServingValue → Option Awaited → Type 0
AwaitsAs wait v None = Unit {0}
AwaitsAs wait v (Some Wire) = v.crew.live ≡ []
AwaitsAs wait v (Some (Part need)) = wait ≡ Some need

-- How a round ends behind its polls, where a read found the wire not ready or not, and a request waits for this: with
-- the turn, where the session has ended or can't go on, or with another round.
abbrev pub Settles : Bool → Option Need → Option SessionTurn → ServingScene → ServingScene → Type 0
Settles starved wait None old new = ServesSome old new
Settles starved wait (Some (Pending awaited)) old new =
    ServesOn [] old new × (new.value ≡ old.value) × AwaitsAs wait new.value (Some awaited)
    × (Rose old.current.waits new.current.waits ⊎ (IsSettled new × ((starved ≡ true) ⊎ IsUndue new.value)))
Settles starved wait (Some (Ended end)) old new = ServesSome old new × LeavesAs end new

-- how a round of a turn ends, if the turn ends with it
abbrev pub RoundLeaves : Option SessionTurn → List ServingEvent → ServingScene → ServingScene → Type 0
RoundLeaves None es old new = Unit {0}
RoundLeaves (Some turned) es old new = TurnLeaves turned es old new

pub record Rounds (turned : Option SessionTurn) (old new : ServingScene) : Type 0 where
  pub events : List ServingEvent
  pub serves : ServesOn events old new
  pub leaves : RoundLeaves turned events old new

-- a phase over a link that waits
abbrev pub link_scene : {L : Type 0} → (L → Option (List ℕ)) → (L → Option (List ℕ)) → (L → ℕ) → (L → ℕ) → Book →
    PhaseValue (PatientValue L) → ServingScene
link_scene left sent read_faults write_faults book p =
    phase_scene (λ w. left w.link) (λ w. sent w.link) (λ w. read_faults w.link) (λ w. write_faults w.link) (λ w. w.refused) book p

-- a session that was served to its end
pub record ServesToEnd (end : SessionEnd) (old new : ServingScene) : Type 0 where
  pub events : List ServingEvent
  pub serves : ServesOn events old new
  pub leaves : LeavesAs end new
