-- What a part may answer to an operation, as its own table has it.
use Rattle.std.specs.Prelude.{◌≡◌, ◌+◌, ◌<◌, ◌≤◌, length, Some, None}
use Rattle.qs_part.specs.declared.tracker.TrackerOp.{TrackerOp}
use Rattle.qs_part.specs.declared.tracker.TrackerOp.TheVariants.{Enter, List as ListOp, Start, End}
use Rattle.qs_part.specs.declared.tracker.TrackerReply.{TrackerReply}
use Rattle.qs_part.specs.declared.tracker.TrackerReply.TheVariants.{Entered, Quiesced, Full, Listed, Strange, Started, NotYet, Ended}
use Rattle.qs_part.specs.declared.graph.GraphReply.{GraphReply}
use Rattle.qs_part.specs.declared.graph.GraphReply.TheVariants.{Shutting, Routed}
use Rattle.qs_part.specs.declared.stripe.StripeOp.{StripeOp}
use Rattle.qs_part.specs.declared.stripe.StripeOp.TheVariants.{Load, Hold, Store, Free, Sync}
use Rattle.qs_part.specs.declared.stripe.StripeReply.{StripeReply}
use Rattle.qs_part.specs.declared.stripe.StripeReply.TheVariants.{Filled, Fault, HeldBy, Taken, Done, Freed, NotHeld, Clean, Synced}
use Rattle.qs_request_state.specs.declared.shape.Shape.{Shape}
use Rattle.qs_request.specs.declared.todo.Todo.{Todo}
use Rattle.qs_request.specs.declared.todo.Todo.TheVariants.{Tracker, Route, Stripe}
use Rattle.qs_request.specs.declared.todo.PartReply.{PartReply}
use Rattle.qs_request.specs.declared.todo.PartReply.TheVariants.{Tracker as ByTracker, Graph as ByGraph, Stripe as ByStripe}

abbrev pub TrackerMay : TrackerOp → TrackerReply → Type 0
TrackerMay Enter (Entered k) = k < 256
TrackerMay Enter Quiesced = Unit {0}
TrackerMay Enter Full = Unit {0}
TrackerMay (ListOp k span serial) (Listed n) = Unit {0}
TrackerMay (ListOp k span serial) Strange = Unit {0}
TrackerMay (Start k) Started = Unit {0}
TrackerMay (Start k) (NotYet n) = Unit {0}
TrackerMay (Start k) Strange = Unit {0}
TrackerMay (End k) Ended = Unit {0}
TrackerMay (End k) Strange = Unit {0}
TrackerMay _ _ = ⊥

-- a way lies inside the image
abbrev pub RouteMay : Shape → GraphReply → Type 0
RouteMay shape (Routed route) = route.offset + route.size ≤ shape.size
RouteMay shape Shutting = Unit {0}
RouteMay shape _ = ⊥

-- the buffer comes back whole
abbrev pub StripeMay : Shape → StripeOp → StripeReply → Type 0
StripeMay shape (Load b k buf) (Filled got) = length got ≡ shape.align
StripeMay shape (Load b k buf) (Fault (Some back)) = length back ≡ shape.align
StripeMay shape (Hold b k end buf) (Filled got) = length got ≡ shape.align
StripeMay shape (Hold b k end buf) (Fault (Some back)) = length back ≡ shape.align
StripeMay shape (Hold b k end buf) (HeldBy j back) = length back ≡ shape.align
StripeMay shape (Hold b k end buf) (Taken c back) = length back ≡ shape.align
StripeMay shape (Store b k buf) (Done back) = length back ≡ shape.align
StripeMay shape (Store b k buf) (Fault (Some back)) = length back ≡ shape.align
StripeMay shape (Store b k buf) (HeldBy j back) = length back ≡ shape.align
StripeMay shape Sync Clean = Unit {0}
StripeMay shape Sync Synced = Unit {0}
StripeMay shape Sync (Fault None) = Unit {0}
StripeMay shape (Free b k) Freed = Unit {0}
StripeMay shape (Free b k) NotHeld = Unit {0}
StripeMay shape _ _ = ⊥

-- what a part of this shape may answer to an operation
abbrev pub MayReplyTo : Shape → Todo → PartReply → Type 0
MayReplyTo shape (Tracker op) (ByTracker reply) = TrackerMay op reply
MayReplyTo shape (Route e) (ByGraph reply) = RouteMay shape reply
MayReplyTo shape (Stripe s op) (ByStripe reply) = StripeMay shape op reply
MayReplyTo shape _ _ = ⊥
