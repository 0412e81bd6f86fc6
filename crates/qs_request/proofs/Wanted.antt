-- What a part may answer to the operation of a stage is what may be told to a request at it.
use Rattle.std.proofs.Common.{ℕ, Bool, List, Some, None, subst}
use Rattle.qs_bytes.specs.Spans.{Places, aligned_out}
use Rattle.qs_bytes.specs.declared.ask.Verdict.{Verdict}
use Rattle.qs_part.specs.declared.stripe.Side.{Side}
use Rattle.qs_part.specs.declared.tracker.TrackerOp.TheVariants.{Enter, List as ListOp, Start, End}
use Rattle.qs_part.specs.declared.tracker.TrackerReply.{TrackerReply}
use Rattle.qs_part.specs.declared.tracker.TrackerReply.TheVariants.{Entered, Quiesced, Full, Listed, Strange, Started, NotYet, Ended}
use Rattle.qs_part.specs.declared.graph.GraphReply.{GraphReply}
use Rattle.qs_part.specs.declared.graph.GraphReply.TheVariants.{Shutting, Routed}
use Rattle.qs_part.specs.declared.stripe.StripeOp.TheVariants.{Load, Hold, Store, Free, Sync}
use Rattle.qs_part.specs.declared.stripe.StripeReply.{StripeReply}
use Rattle.qs_part.specs.declared.stripe.StripeReply.TheVariants.{Filled, Fault, HeldBy, Taken, Done, Freed, NotHeld, Clean, Synced}
use Rattle.qs_model.specs.Requests.{Client, Pads, Req, Stage, ToRoute, ToList, ToStart, ToLoad, ToHold, ToStore, ToSync, ToFree, ToEnd, Ready, Entering, In, edge, span_of, serial}
use Rattle.qs_bytes.specs.Geometry.{stripe_of}
use Rattle.qs_request_state.specs.declared.shape.Shape.{Shape}
use Rattle.qs_request.specs.declared.todo.Todo.{Todo}
use Rattle.qs_request.specs.declared.todo.Todo.TheVariants.{Tracker, Route, Stripe, Answer}
use Rattle.qs_request.specs.declared.todo.PartReply.{PartReply}
use Rattle.qs_request.specs.declared.todo.PartReply.TheVariants.{Tracker as ByTracker, Graph as ByGraph, Stripe as ByStripe}
use Rattle.qs_request.specs.Table.{WantsAt, Wants, MayTrack, MayRoute, MayStripe, MayAnswer, MayReply}
use Rattle.qs_request.specs.Operations.{TrackerMay, RouteMay, StripeMay, MayReplyTo}

enter_may : (r : TrackerReply) → TrackerMay Enter r → MayTrack r Entering
enter_may (Entered k) h = h
enter_may Quiesced h = h
enter_may Full h = h
enter_may r h = absurd h

list_may : (k j : ℕ) (span : Places) (t : Bool) (r : TrackerReply) → TrackerMay (ListOp k span t) r → MayTrack r (In j ToList)
list_may k j span t (Listed n) h = h
list_may k j span t Strange h = h
list_may k j span t r h = absurd h

start_may : (k j : ℕ) (r : TrackerReply) → TrackerMay (Start k) r → MayTrack r (In j ToStart)
start_may k j Started h = h
start_may k j (NotYet n) h = h
start_may k j Strange h = h
start_may k j r h = absurd h

end_may : (k j : ℕ) (v : Verdict) (r : TrackerReply) → TrackerMay (End k) r → MayTrack r (In j (ToEnd v))
end_may k j v Ended h = h
end_may k j v Strange h = h
end_may k j v r h = absurd h

route_may : (shape : Shape) (j : ℕ) (r : GraphReply) → RouteMay shape r → MayRoute shape r (In j ToRoute)
route_may shape j (Routed route) h = h
route_may shape j Shutting h = h
route_may shape j r h = absurd h

load_may : (shape : Shape) (b k j c : ℕ) (buf got : List ℕ) (r : StripeReply) → StripeMay shape (Load b k buf) r → MayStripe shape r (In j (ToLoad c got))
load_may shape b k j c buf got (Filled back) h = h
load_may shape b k j c buf got (Fault (Some back)) h = h
load_may shape b k j c buf got r h = absurd h

hold_may : (shape : Shape) (b k j : ℕ) (end side : Side) (buf : List ℕ) (r : StripeReply) → StripeMay shape (Hold b k end buf) r → MayStripe shape r (In j (ToHold side))
hold_may shape b k j end side buf (Filled back) h = h
hold_may shape b k j end side buf (Fault (Some back)) h = h
hold_may shape b k j end side buf (HeldBy i back) h = h
hold_may shape b k j end side buf (Taken c back) h = h
hold_may shape b k j end side buf r h = absurd h

store_may : (shape : Shape) (b k j c : ℕ) (buf : List ℕ) (r : StripeReply) → StripeMay shape (Store b k buf) r → MayStripe shape r (In j (ToStore c))
store_may shape b k j c buf (Done back) h = h
store_may shape b k j c buf (Fault (Some back)) h = h
store_may shape b k j c buf (HeldBy i back) h = h
store_may shape b k j c buf r h = absurd h

sync_may : (shape : Shape) (j s : ℕ) (r : StripeReply) → StripeMay shape Sync r → MayStripe shape r (In j (ToSync s))
sync_may shape j s Clean h = h
sync_may shape j s Synced h = h
sync_may shape j s (Fault None) h = h
sync_may shape j s r h = absurd h

free_may : (shape : Shape) (b k j : ℕ) (side : Side) (r : StripeReply) → StripeMay shape (Free b k) r → MayStripe shape r (In j (ToFree side))
free_may shape b k j side Freed h = h
free_may shape b k j side NotHeld h = h
free_may shape b k j side r h = absurd h

-- what may be answered to an operation that is a stage's may be told to a request at the stage
pub told : (shape : Shape) (A : ℕ) (c : Client) (p : Pads) (stage : Stage) (todo : Todo) (reply : PartReply) → WantsAt A c p stage todo → MayReplyTo shape todo reply →
    MayAnswer shape stage reply
told shape A c p (Ready v) todo reply is may = absurd (none reply (subst (λ (t : Todo). MayReplyTo shape t reply) is may))
  where
    none : (r : PartReply) → MayReplyTo shape (Answer v) r → ⊥
    none (ByTracker r) h = h
    none (ByGraph r) h = h
    none (ByStripe r) h = h
told shape A c p Entering todo reply is may = go reply (subst (λ (t : Todo). MayReplyTo shape t reply) is may)
  where
    go : (r : PartReply) → MayReplyTo shape (Tracker Enter) r → MayAnswer shape Entering r
    go (ByTracker r) h = enter_may r h
    go r h = absurd h
told shape A c p (In k ToRoute) todo reply is may = go reply (subst (λ (t : Todo). MayReplyTo shape t reply) is may)
  where
    go : (r : PartReply) → MayReplyTo shape (Route c.export) r → MayAnswer shape (In k ToRoute) r
    go (ByGraph r) h = route_may shape k r h
    go r h = absurd h
told shape A c p (In k ToList) todo reply is may = go reply (aligned_out (span_of c) A) (serial A c) (subst (λ (t : Todo). MayReplyTo shape t reply) is may)
  where
    go : (r : PartReply) (span : Places) (t : Bool) → MayReplyTo shape (Tracker (ListOp k span t)) r → MayAnswer shape (In k ToList) r
    go (ByTracker r) span t h = list_may k k span t r h
    go r span t h = absurd h
told shape A c p (In k ToStart) todo reply is may = go reply (subst (λ (t : Todo). MayReplyTo shape t reply) is may)
  where
    go : (r : PartReply) → MayReplyTo shape (Tracker (Start k)) r → MayAnswer shape (In k ToStart) r
    go (ByTracker r) h = start_may k k r h
    go r h = absurd h
told shape A c p (In k (ToLoad b got)) todo reply is may = go reply (stripe_of b) is.0 (subst (λ (t : Todo). MayReplyTo shape t reply) is.1.1 may)
  where
    go : (r : PartReply) (s : ℕ) (buf : List ℕ) → MayReplyTo shape (Stripe s (Load b k buf)) r → MayAnswer shape (In k (ToLoad b got)) r
    go (ByStripe r) s buf h = load_may shape b k k b buf got r h
    go r s buf h = absurd h
told shape A c p (In k (ToHold side)) todo reply is may = go reply (stripe_of (edge A c side)) (edge A c side) is.0 (subst (λ (t : Todo). MayReplyTo shape t reply) is.1.1 may)
  where
    go : (r : PartReply) (s b : ℕ) (buf : List ℕ) → MayReplyTo shape (Stripe s (Hold b k side buf)) r → MayAnswer shape (In k (ToHold side)) r
    go (ByStripe r) s b buf h = hold_may shape b k k side side buf r h
    go r s b buf h = absurd h
told shape A c p (In k (ToStore b)) todo reply is may = go reply (stripe_of b) is.0 (subst (λ (t : Todo). MayReplyTo shape t reply) is.1.1.0 may)
  where
    go : (r : PartReply) (s : ℕ) (buf : List ℕ) → MayReplyTo shape (Stripe s (Store b k buf)) r → MayAnswer shape (In k (ToStore b)) r
    go (ByStripe r) s buf h = store_may shape b k k b buf r h
    go r s buf h = absurd h
told shape A c p (In k (ToSync s)) todo reply is may = go reply s (subst (λ (t : Todo). MayReplyTo shape t reply) is may)
  where
    go : (r : PartReply) (s : ℕ) → MayReplyTo shape (Stripe s Sync) r → MayAnswer shape (In k (ToSync s)) r
    go (ByStripe r) s h = sync_may shape k s r h
    go r s h = absurd h
told shape A c p (In k (ToFree side)) todo reply is may = go reply (stripe_of (edge A c side)) (edge A c side) (subst (λ (t : Todo). MayReplyTo shape t reply) is may)
  where
    go : (r : PartReply) (s b : ℕ) → MayReplyTo shape (Stripe s (Free b k)) r → MayAnswer shape (In k (ToFree side)) r
    go (ByStripe r) s b h = free_may shape b k k side r h
    go r s b h = absurd h
told shape A c p (In k (ToEnd v)) todo reply is may = go reply (subst (λ (t : Todo). MayReplyTo shape t reply) is may)
  where
    go : (r : PartReply) → MayReplyTo shape (Tracker (End k)) r → MayAnswer shape (In k (ToEnd v)) r
    go (ByTracker r) h = end_may k k v r h
    go r h = absurd h

pub may_reply : (shape : Shape) (A : ℕ) (q : Req) (todo : Todo) (reply : PartReply) → Wants A q todo → MayReplyTo shape todo reply → MayReply shape q reply
may_reply shape A q todo reply is may = told shape A q.client q.pads q.stage todo reply is may
