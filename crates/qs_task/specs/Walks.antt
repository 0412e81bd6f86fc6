-- The walk of a request through the request table, operation by operation.
use Rattle.std.specs.Prelude.{◌≡◌, ℕ, Bool, true, false, if◌then◌else◌, List, [], ◌∷◌, ◌++◌, Option, Some, None}
use Rattle.qs_part.specs.declared.stripe.StripeReply.{StripeReply}
use Rattle.qs_part.specs.declared.stripe.StripeReply.TheVariants.{HeldBy, Taken, NotHeld}
use Rattle.qs_part.specs.declared.tracker.TrackerReply.{TrackerReply}
use Rattle.qs_part.specs.declared.tracker.TrackerReply.TheVariants.{Quiesced, Full, NotYet, Strange}
use Rattle.qs_model.specs.Requests.{Req}
use Rattle.qs_request_state.specs.declared.shape.Shape.{Shape}
use Rattle.qs_request.specs.declared.todo.Todo.{Todo}
use Rattle.qs_request.specs.declared.todo.Todo.TheVariants.{Tracker, Stripe}
use Rattle.qs_request.specs.declared.todo.PartReply.{PartReply}
use Rattle.qs_request.specs.declared.todo.PartReply.TheVariants.{Tracker as ByTracker, Graph as ByGraph, Stripe as ByStripe}
use Rattle.qs_request.specs.Operations.{MayReplyTo}
use Rattle.qs_request.specs.Table.{Wants, followed}
use Rattle.qs_task.specs.declared.need.Need.{Need}
use Rattle.qs_task.specs.declared.need.Need.TheVariants.{Tracker as NeedsTracker, Stripe as NeedsStripe}
use Rattle.qs_task.specs.Books.{RequestCall}

-- request n does the operation that the request table has next, and a part of this shape may answer so
pub record IsNextCall (shape : Shape) (n : ℕ) (q : Req) (c : RequestCall) : Type 0 where
  pub number : c.request ≡ n
  pub wants : Wants shape.align q c.op
  pub may : MayReplyTo shape c.op c.reply

-- these calls lead request n from q to t: each is the next one, and its reply leads on
abbrev pub WalksTo : Shape → ℕ → Req → List RequestCall → Req → Type 0
WalksTo shape n q [] t = t ≡ q
WalksTo shape n q (c ∷ calls) t = IsNextCall shape n q c × WalksTo shape n (followed shape.align q c.reply) calls t

-- the answers that leave a request where it is
abbrev pub tracker_waits : TrackerReply → Bool
tracker_waits Quiesced = true
tracker_waits Full = true
tracker_waits (NotYet n) = true
tracker_waits Strange = true
tracker_waits _ = false

abbrev pub stripe_waits : StripeReply → Bool
stripe_waits (HeldBy j buf) = true
stripe_waits (Taken b buf) = true
stripe_waits NotHeld = true
stripe_waits _ = false

abbrev pub is_wait : PartReply → Bool
is_wait (ByTracker reply) = tracker_waits reply
is_wait (ByGraph reply) = false
is_wait (ByStripe reply) = stripe_waits reply

-- the part of an operation for which a request may have to wait
abbrev pub part_of : Todo → Option Need
part_of (Tracker op) = Some NeedsTracker
part_of (Stripe s op) = Some (NeedsStripe s)
part_of _ = None

-- what a request has to wait for after a call, if it can't go on
abbrev pub wait_after : RequestCall → Option Need
wait_after c = if is_wait c.reply then part_of c.op else None

-- after none of the calls the request had to wait
abbrev pub GoOn : List RequestCall → Type 0
GoOn [] = Unit {0}
GoOn (c ∷ calls) = (wait_after c ≡ None) × GoOn calls

-- after the last call it had to wait for this, and after none before
pub record StopsFor (need : Need) (calls : List RequestCall) : Type 0 where
  pub before : List RequestCall
  pub stop : RequestCall
  pub all : calls ≡ before ++ stop ∷ []
  pub went : GoOn before
  pub waits : wait_after stop ≡ Some need
