-- A crew of live requests: what becomes of it, event by event, and what the events tell of one request.
use Rattle.std.specs.Prelude.{◌≡◌, ◌≢◌, ℕ, ◌<◌, ◌⊎◌, ◌==◌, false, if◌then◌else◌, List, [], ◌∷◌, ◌++◌, length, map, nat_le, Option, Some, None, IsSome}
use Rattle.std.specs.List.{slice_set, remove}
use Rattle.std.specs.Option.{option_map}
use Rattle.qs_bytes.specs.declared.ask.Ask.{Ask}
use Rattle.qs_bytes.specs.declared.ask.Verdict.{Verdict}
use Rattle.qs_model.specs.Requests.{Req, Ready, abandon}
use Rattle.qs_request_state.specs.declared.shape.Shape.{Shape}
use Rattle.qs_request.specs.Table.{followed}
use Rattle.qs_task.specs.declared.crew.CrewPoll.{CrewPoll}
use Rattle.qs_task.specs.declared.crew.CrewPoll.TheVariants.{NoSuch, Pending as StillPending, Answered as HasAnswered}
use Rattle.qs_task.specs.declared.need.Need.{Need}
use Rattle.qs_task.specs.declared.need.Polled.TheVariants.{Ready as IsReady, Pending as IsPending}
use Rattle.qs_task.specs.Books.{Book, RequestCall, noted}
use Rattle.qs_task.specs.Walks.{IsNextCall, GoOn, StopsFor}
use Rattle.qs_task.specs.Tasks.{TaskValue, Polls}

-- the live requests to one image in the order in which they came, and the number of the one that came last
pub record CrewValue : Type 0 where
  pub shape : Shape
  pub newest : ℕ
  pub live : List TaskValue

-- a crew as it is made: nobody has come
abbrev pub no_crew : Shape → CrewValue
no_crew shape = record { shape = shape; newest = 0; live = [] }

-- a task of this image that hasn't been answered
pub record IsManned (shape : Shape) (t : TaskValue) : Type 0 where
  pub of : t.shape ≡ shape
  pub unanswered : t.over ≡ false

-- what may happen: a request begins, a request makes a call, a request is answered, or the session leaves
pub data CrewEvent : Type 0 where
  Began : TaskValue → CrewEvent
  Called : RequestCall → CrewEvent
  Answered : (n : ℕ) → Verdict → CrewEvent
  Left : CrewEvent

-- the live request with a number
abbrev pub live_by_number : ℕ → List TaskValue → Option Req
live_by_number n [] = None
live_by_number n (t ∷ live) = if t.number == n then Some t.request else live_by_number n live

-- The least number above `low` that a live request has. Without one, none has a number above it.
abbrev pub NextAbove : ℕ → List TaskValue → Option ℕ → Type 0
NextAbove low live None = (m : ℕ) → low < m → live_by_number m live ≡ None
NextAbove low live (Some n) =
    (low < n) × IsSome (live_by_number n live) × ((m : ℕ) → low < m → m < n → live_by_number m live ≡ None)

-- the lesser of two numbers, of which the second counts only where it is above `low`
abbrev pub lesser_above : ℕ → Option ℕ → ℕ → Option ℕ
lesser_above low None n = if nat_le n low then None else Some n
lesser_above low (Some m) n = if nat_le n low then Some m else (if nat_le m n then Some m else Some n)

-- request n is q now
abbrev pub with_request : ℕ → Req → List TaskValue → List TaskValue
with_request n q [] = []
with_request n q (t ∷ live) = if t.number == n then record t { request = q } ∷ live else t ∷ with_request n q live

-- request n isn't live any more
abbrev pub without_request : ℕ → List TaskValue → List TaskValue
without_request n [] = []
without_request n (t ∷ live) = if t.number == n then live else t ∷ without_request n live

abbrev pub abandoned_task : TaskValue → TaskValue
abandoned_task t = record t { request = abandon t.request }

-- a request that hasn't been answered, of this image, with a number above all that came before; fewer than 16 are live
pub record MayBegin (crew : CrewValue) (t : TaskValue) : Type 0 where
  pub room : length crew.live < 16
  pub number : crew.newest < t.number
  pub manned : IsManned crew.shape t

-- a live request makes its next call, and is q after it
pub record CallsNext (crew : CrewValue) (c : RequestCall) (new : CrewValue) : Type 0 where
  pub request : Req
  pub is_live : live_by_number c.request crew.live ≡ Some request
  pub next : IsNextCall crew.shape c.request request c
  pub live : new ≡ record crew { live = with_request c.request (followed crew.shape.align request c.reply) crew.live }

-- a live request that is ready gives its answer, and isn't live any more
pub record AnswersNext (crew : CrewValue) (n : ℕ) (v : Verdict) (new : CrewValue) : Type 0 where
  pub request : Req
  pub is_live : live_by_number n crew.live ≡ Some request
  pub ready : request.stage ≡ Ready v
  pub live : new ≡ record crew { live = without_request n crew.live }

-- what an event makes of a crew
abbrev pub CrewStep : CrewValue → CrewEvent → CrewValue → Type 0
CrewStep crew (Began t) new = MayBegin crew t × (new ≡ record crew { newest = t.number; live = crew.live ++ t ∷ [] })
CrewStep crew (Called c) new = CallsNext crew c new
CrewStep crew (Answered n v) new = AnswersNext crew n v new
CrewStep crew Left new = new ≡ record crew { live = map abandoned_task crew.live }

abbrev pub CrewRuns : CrewValue → List CrewEvent → CrewValue → Type 0
CrewRuns crew [] new = new ≡ crew
CrewRuns crew (e ∷ events) new = (mid : CrewValue) × CrewStep crew e mid × CrewRuns mid events new

-- what became of a request: it hasn't begun, or goes on, or was answered
pub data Progress : Type 0 where
  Unbegun : Progress
  Going : Req → Progress
  Over : Verdict → Progress

abbrev pub left_behind : Progress → Progress
left_behind (Going q) = Going (abandon q)
left_behind p = p

-- What an event tells of request n. Only the events of its number change it: it begins once, then each of its calls is
-- its next one, and it is answered with the answer that it is ready to give. A session that leaves abandons it.
abbrev pub TellsOf : Shape → ℕ → CrewEvent → Progress → Progress → Type 0
TellsOf shape n (Began t) p r =
    ((t.number ≡ n) × (p ≡ Unbegun) × (r ≡ Going t.request)) ⊎ ((t.number ≢ n) × (r ≡ p))
TellsOf shape n (Called c) p r =
    ((q : Req) × (p ≡ Going q) × IsNextCall shape n q c × (r ≡ Going (followed shape.align q c.reply)))
    ⊎ ((c.request ≢ n) × (r ≡ p))
TellsOf shape n (Answered k v) p r =
    ((q : Req) × (k ≡ n) × (p ≡ Going q) × (q.stage ≡ Ready v) × (r ≡ Over v)) ⊎ ((k ≢ n) × (r ≡ p))
TellsOf shape n Left p r = r ≡ left_behind p

-- what all of them tell: the walk of request n among those of the others
abbrev pub WalkOf : Shape → ℕ → Progress → List CrewEvent → Progress → Type 0
WalkOf shape n p [] r = r ≡ p
WalkOf shape n p (e ∷ events) r = (mid : Progress) × TellsOf shape n e p mid × WalkOf shape n mid events r

-- the live requests are those that go on
abbrev pub under_way : Progress → Option Req
under_way (Going q) = Some q
under_way _ = None

-- The story of request n: its calls are its walk through the request table, each once, up to its answer or to where it
-- is now.
pub record HasWalk (shape : Shape) (n : ℕ) (events : List CrewEvent) (crew : CrewValue) : Type 0 where
  pub progress : Progress
  pub walk : WalkOf shape n Unbegun events progress
  pub live : live_by_number n crew.live ≡ under_way progress

-- a poll of the task at a place of the list
abbrev pub PollsAt : CrewPoll → ℕ → TaskValue → List TaskValue → List TaskValue → Book → Book → Type 0
PollsAt NoSuch at t old new before after = ⊥
PollsAt (StillPending need) at t old new before after =
    (u : TaskValue) × Polls (IsPending need) t u before after × (new ≡ slice_set old at u)
PollsAt (HasAnswered ask v) at t old new before after =
    (u : TaskValue) × Polls (IsReady v) t u before after × (ask ≡ t.request.client.ask) × (new ≡ remove old at)

-- all calls are of request n
abbrev pub AreCallsOf : ℕ → List RequestCall → Type 0
AreCallsOf n [] = Unit {0}
AreCallsOf n (c ∷ calls) = (c.request ≡ n) × AreCallsOf n calls

-- A poll of request n that ended in a wait: it made these calls, and has to wait for just this after the last one.
pub record PollWaits (n : ℕ) (need : Need) (old new : CrewValue) (before after : Book) : Type 0 where
  pub calls : List RequestCall
  pub numbered : AreCallsOf n calls
  pub runs : CrewRuns old (map Called calls) new
  pub booked : after ≡ noted calls before
  pub stops : StopsFor need calls

-- a poll that answered request n: it made these calls, and had to wait after none
pub record PollAnswers (n : ℕ) (ask : Ask) (v : Verdict) (old new : CrewValue) (before after : Book) : Type 0 where
  pub calls : List RequestCall
  pub numbered : AreCallsOf n calls
  pub runs : CrewRuns old (map Called calls ++ Answered n v ∷ []) new
  pub booked : after ≡ noted calls before
  pub went : GoOn calls
  pub asked : option_map (λ q. q.client.ask) (live_by_number n old.live) ≡ Some ask

-- a poll of request n of a crew
abbrev pub CrewPolls : CrewPoll → ℕ → CrewValue → CrewValue → Book → Book → Type 0
CrewPolls NoSuch n old new before after = (live_by_number n old.live ≡ None) × (new ≡ old) × (after ≡ before)
CrewPolls (StillPending need) n old new before after = PollWaits n need old new before after
CrewPolls (HasAnswered ask v) n old new before after = PollAnswers n ask v old new before after
