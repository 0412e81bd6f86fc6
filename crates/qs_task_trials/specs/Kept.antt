-- The book of a station that keeps its calls.
use Rattle.std.specs.Prelude.{Bool, true, false, List, [], map, Some, replicate}
use Rattle.qs_part.specs.declared.graph.GraphReply.TheVariants.{Routed}
use Rattle.qs_part.specs.declared.graph.Route.{Route as Way}
use Rattle.qs_part.specs.declared.stripe.StripeOp.{StripeOp}
use Rattle.qs_part.specs.declared.stripe.StripeOp.TheVariants.{Load, Hold, Store, Free, Sync}
use Rattle.qs_part.specs.declared.stripe.StripeReply.{StripeReply}
use Rattle.qs_part.specs.declared.stripe.StripeReply.TheVariants.{Filled, Done, Freed, Synced}
use Rattle.qs_part.specs.declared.tracker.TrackerOp.{TrackerOp}
use Rattle.qs_part.specs.declared.tracker.TrackerOp.TheVariants.{Enter, List as ListOp, Start, End}
use Rattle.qs_part.specs.declared.tracker.TrackerReply.{TrackerReply}
use Rattle.qs_part.specs.declared.tracker.TrackerReply.TheVariants.{Entered, Listed, NotYet, Started, Ended, Strange}
use Rattle.qs_part.specs.Histories.{call}
use Rattle.qs_request.specs.declared.todo.Todo.{Todo}
use Rattle.qs_request.specs.declared.todo.Todo.TheVariants.{Tracker as OnTracker, Route as OnGraph, Stripe as OnStripe, Answer}
use Rattle.qs_request.specs.declared.todo.PartReply.{PartReply}
use Rattle.qs_request.specs.declared.todo.PartReply.TheVariants.{Tracker as ByTracker, Graph as ByGraph, Stripe as ByStripe}
use Rattle.qs_task.specs.Books.{Book, RequestCall, noted}
use Rattle.qs_task_trials.specs.declared.station.KeptCall.{KeptCall}

-- the eight stripes, the tracker and the graph weren't called
abbrev pub no_calls : Book
no_calls = record { made = record { tracker = []; graph = []; stripes = replicate 8 [] }; order = Some [] }

abbrev pub as_call : KeptCall → RequestCall
as_call kept = call kept.request kept.todo kept.reply

abbrev pub kept_book : List KeptCall → Book
kept_book kept = noted (map as_call kept) no_calls

-- how the tracker answers where nobody else is in, or where an earlier request still is
abbrev pub tracker_answer : Bool → TrackerOp → TrackerReply
tracker_answer busy Enter = Entered 0
tracker_answer busy (ListOp k span serial) = Listed 0
tracker_answer true (Start k) = NotYet 0
tracker_answer false (Start k) = Started
tracker_answer busy (End k) = Ended
tracker_answer busy _ = Strange

-- a stripe where nothing is refused: each block has the bytes that the buffer has
abbrev pub stripe_answer : StripeOp → StripeReply
stripe_answer (Load b k buf) = Filled buf
stripe_answer (Hold b k end buf) = Filled buf
stripe_answer (Store b k buf) = Done buf
stripe_answer (Free b k) = Freed
stripe_answer Sync = Synced

abbrev pub part_answer : Bool → Way → Todo → PartReply
part_answer busy way (OnTracker op) = ByTracker (tracker_answer busy op)
part_answer busy way (OnGraph e) = ByGraph (Routed way)
part_answer busy way (OnStripe s op) = ByStripe (stripe_answer op)
part_answer busy way (Answer v) = ByTracker Strange
