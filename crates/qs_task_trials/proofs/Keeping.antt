-- One more kept call.
use Rattle.std.proofs.Common.{◌≡◌, ◌+◌, ◌≤◌, Bool, true, false, List, arith, [], ◌∷◌, ◌++◌, map, refl}
use Rattle.qs_part.specs.declared.graph.Route.{Route as Way}
use Rattle.qs_part.specs.declared.stripe.StripeOp.{StripeOp}
use Rattle.qs_part.specs.declared.stripe.StripeOp.TheVariants.{Load, Hold, Store, Free, Sync}
use Rattle.qs_part.specs.declared.tracker.TrackerOp.{TrackerOp}
use Rattle.qs_part.specs.declared.tracker.TrackerOp.TheVariants.{Enter, List as ListOp, Start, End}
use Rattle.qs_request_state.specs.declared.shape.Shape.{Shape}
use Rattle.qs_request.specs.declared.todo.Todo.{Todo}
use Rattle.qs_request.specs.declared.todo.Todo.TheVariants.{Tracker as OnTracker, Route as OnGraph, Stripe as OnStripe, Answer}
use Rattle.qs_request.specs.Operations.{MayReplyTo}
use Rattle.qs_request.specs.Table.{FitsPart, FitsStripe}
use Rattle.qs_task.specs.Books.{Book, IsOperation, notes, noted}
use Rattle.qs_task_trials.specs.Kept.{part_answer, as_call, kept_book, no_calls}
use Rattle.qs_task_trials.specs.declared.station.KeptCall.{KeptCall}

more : (kept : List KeptCall) (k : KeptCall) (book : Book) →
    noted (map as_call (kept ++ k ∷ [])) book ≡ notes (as_call k) (noted (map as_call kept) book)
more [] k book = refl
more (x ∷ kept) k book = more kept k (notes (as_call x) book)

pub kept_more : (kept : List KeptCall) (k : KeptCall) → kept_book (kept ++ k ∷ []) ≡ notes (as_call k) (kept_book kept)
kept_more kept k = more kept k no_calls

tracker_may : (shape : Shape) (busy : Bool) (way : Way) (op : TrackerOp) → IsOperation (OnTracker op) →
    MayReplyTo shape (OnTracker op) (part_answer busy way (OnTracker op))
tracker_may shape busy way Enter does = omega arith
tracker_may shape busy way (ListOp k span serial) does = tt
tracker_may shape true way (Start k) does = tt
tracker_may shape false way (Start k) does = tt
tracker_may shape busy way (End k) does = tt
tracker_may shape busy way _ does = absurd does

stripe_may : (shape : Shape) (busy : Bool) (way : Way) (s : _) (op : StripeOp) → FitsStripe shape s op →
    MayReplyTo shape (OnStripe s op) (part_answer busy way (OnStripe s op))
stripe_may shape busy way s (Load b k buf) fits = fits.2
stripe_may shape busy way s (Hold b k end buf) fits = fits.2
stripe_may shape busy way s (Store b k buf) fits = fits.2
stripe_may shape busy way s (Free b k) fits = tt
stripe_may shape busy way s Sync fits = tt

-- the answers are ones that parts of the shape may give
pub answer_may : (shape : Shape) (busy : Bool) (way : Way) (todo : Todo) → way.offset + way.size ≤ shape.size → IsOperation todo →
    FitsPart shape todo → MayReplyTo shape todo (part_answer busy way todo)
answer_may shape busy way (OnTracker op) inside does fits = tracker_may shape busy way op does
answer_may shape busy way (OnGraph e) inside does fits = inside
answer_may shape busy way (OnStripe s op) inside does fits = stripe_may shape busy way s op fits
answer_may shape busy way (Answer v) inside does fits = absurd does
