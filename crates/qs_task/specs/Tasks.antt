-- Tasks, and what a poll of one does.
use Rattle.std.specs.Prelude.{◌≡◌, ℕ, Bool, true, List, Option, Some, None}
use Rattle.qs_bytes.specs.declared.ask.Verdict.{Verdict}
use Rattle.qs_model.specs.Requests.{Req, Ready}
use Rattle.qs_request_state.specs.declared.shape.Shape.{Shape}
use Rattle.qs_request.specs.Table.{followed}
use Rattle.qs_task.specs.declared.need.Need.{Need}
use Rattle.qs_task.specs.declared.need.Polled.{Polled}
use Rattle.qs_task.specs.declared.need.Polled.TheVariants.{Ready as IsReady, Pending as IsPending}
use Rattle.qs_task.specs.Books.{Book, RequestCall, notes, noted}
use Rattle.qs_task.specs.Walks.{IsNextCall, WalksTo, GoOn, StopsFor, wait_after}

-- a request with its number and the image that it goes to, and whether it has been answered
pub record TaskValue : Type 0 where
  pub number : ℕ
  pub request : Req
  pub shape : Shape
  pub over : Bool

-- an answered task, of which nothing more is asked
pub record IsAnsweredTask (old new : TaskValue) : Type 0 where
  pub over : new.over ≡ true
  pub number : new.number ≡ old.number
  pub shape : new.shape ≡ old.shape

-- request n made one call, its next one, which was noted in the book; what it has to wait for after it, if anything
pub record MakesCall (shape : Shape) (n : ℕ) (wait : Option Need) (old new : Req) (before after : Book) : Type 0 where
  pub made : RequestCall
  pub next : IsNextCall shape n old made
  pub moved : new ≡ followed shape.align old made.reply
  pub booked : after ≡ notes made before
  pub waits : wait_after made ≡ wait

-- a task made one call
pub record TaskCalls (wait : Option Need) (old new : TaskValue) (before after : Book) : Type 0 where
  pub makes : MakesCall old.shape old.number wait old.request new.request before after
  pub rest : new ≡ record old { request = new.request }

-- a task gave its answer, and made no call
pub record GivesAnswer (v : Verdict) (old new : TaskValue) (before after : Book) : Type 0 where
  pub ready : old.request.stage ≡ Ready v
  pub answered : IsAnsweredTask old new
  pub booked : after ≡ before

-- a poll ends after a call after which the request has to wait
abbrev pub pause : Option Need → Option Polled
pause None = None
pause (Some need) = Some (IsPending need)

-- one move of a task: a call after which it goes on, one after which it waits, or its answer
abbrev pub Moves : Option Polled → TaskValue → TaskValue → Book → Book → Type 0
Moves None old new before after = TaskCalls None old new before after
Moves (Some (IsPending need)) old new before after = TaskCalls (Some need) old new before after
Moves (Some (IsReady v)) old new before after = GivesAnswer v old new before after

-- How a poll ends, after these calls, which led to the request t: ready with the answer of t, and it had to wait after
-- no call; or pending, and it had to wait for just this after the last call.
abbrev pub PollEnds : Polled → List RequestCall → Req → TaskValue → TaskValue → Type 0
PollEnds (IsReady v) calls t old new = GoOn calls × (t.stage ≡ Ready v) × IsAnsweredTask old new
PollEnds (IsPending need) calls t old new = StopsFor need calls × (new ≡ record old { request = t })

-- A poll of a task: its calls are the next ones of its request, in the order of the request table, and those alone
-- were noted.
pub record Polls (polled : Polled) (old new : TaskValue) (before after : Book) : Type 0 where
  pub calls : List RequestCall
  pub end : Req
  pub walks : WalksTo old.shape old.number old.request calls end
  pub booked : after ≡ noted calls before
  pub ends : PollEnds polled calls end old new

-- The whole run of a request: its calls lead through the request table to this answer, and those alone were noted.
pub record RunsTo (v : Verdict) (task : TaskValue) (before after : Book) : Type 0 where
  pub calls : List RequestCall
  pub end : Req
  pub walks : WalksTo task.shape task.number task.request calls end
  pub ready : end.stage ≡ Ready v
  pub booked : after ≡ noted calls before
