-- Requests whose answers have a reply.
use Rattle.std.specs.Prelude.{◌≡◌, ℕ, ◌-◌, ◌*◌, ◌<◌, ◌≤◌, max, Bool, true, false, List, length}
use Rattle.std.specs.List.{AllByRecursion}
use Rattle.qs_bytes.specs.declared.ask.Ask.{Ask}
use Rattle.qs_bytes.specs.declared.ask.Verdict.{Verdict}
use Rattle.qs_bytes.specs.declared.ask.Verdict.TheVariants.{Dropped}
use Rattle.qs_bytes.specs.Payloads.{max_payload}
use Rattle.qs_model.specs.Requests.{Client, Req, Stage, Step, ToRoute, ToList, ToStart, ToLoad, ToEnd, Ready, Entering, In, edge, is_read, span_of}
use Rattle.qs_part.specs.declared.stripe.Side.TheVariants.{Head, Tail}
use Rattle.qs_nbd_transmission.specs.Replies.{CanReply}
use Rattle.qs_task.specs.Tasks.{TaskValue}

-- a READ asks for no more than one reply may carry
abbrev pub IsShortRead : Ask → Type 0
IsShortRead ask = is_read ask.kind ≡ true → ask.length ≤ max_payload

-- a READ that loads its blocks, of A bytes each: it has all covered bytes up to block b
pub record HasLoaded (A : ℕ) (c : Client) (b : ℕ) (got : List ℕ) : Type 0 where
  pub reading : is_read c.ask.kind ≡ true
  pub short : c.ask.length ≤ max_payload
  pub some : (span_of c).lo < (span_of c).hi
  pub first : edge A c Head ≤ b
  pub last : b ≤ edge A c Tail
  pub so_far : length got ≡ max (span_of c).lo (b * A) - (span_of c).lo

-- a request that has its way, and covers some place
pub record HasSpan (c : Client) : Type 0 where
  pub short : IsShortRead c.ask
  pub some : (span_of c).lo < (span_of c).hi

-- the answer that a step leads to has a reply
abbrev pub StepFits : ℕ → Client → Step → Type 0
StepFits A c ToRoute = IsShortRead c.ask
StepFits A c ToList = HasSpan c
StepFits A c ToStart = HasSpan c
StepFits A c (ToLoad b got) = HasLoaded A c b got
StepFits A c (ToEnd v) = CanReply c.ask v
StepFits A c step = is_read c.ask.kind ≡ false

-- the answer that a request comes to has a reply, or it was abandoned and is dropped
abbrev pub StageFits : ℕ → Client → Bool → Stage → Type 0
StageFits A c true (Ready v) = v ≡ Dropped
StageFits A c true Entering = Unit {0}
StageFits A c true (In k step) = Unit {0}
StageFits A c false (Ready v) = CanReply c.ask v
StageFits A c false Entering = IsShortRead c.ask
StageFits A c false (In k step) = StepFits A c step

abbrev pub RequestFits : ℕ → Req → Type 0
RequestFits A q = StageFits A q.client q.dropped q.stage

pub record TaskFits (A : ℕ) (t : TaskValue) : Type 0 where
  pub request : RequestFits A t.request

abbrev pub AllFit : ℕ → List TaskValue → Type 0
AllFit A live = AllByRecursion (TaskFits A) live

-- a verdict that has a reply, or needs none
abbrev pub IsAnswerTo : Ask → Verdict → Type 0
IsAnswerTo ask Dropped = Unit {0}
IsAnswerTo ask v = CanReply ask v
