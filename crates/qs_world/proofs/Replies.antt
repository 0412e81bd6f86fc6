-- Operations fit their parts, and the parts' answers are ones that a request may get.
use Rattle.std.proofs.Common.{◌≡◌, ℕ, ◌<◌, List, length, sym, ◌∙◌, ap, subst, arith}
use Rattle.std.specs.Prelude.{Some, None}
use Rattle.std.proofs.lemmas.List.Quantifiers.{position-Some}
use Rattle.qs_bytes.specs.Spans.{aligned_out}
use Rattle.qs_part.specs.declared.graph.GraphOp.TheVariants.{Route as RouteOp}
use Rattle.qs_part.specs.declared.graph.GraphReply.{GraphReply}
use Rattle.qs_part.specs.declared.graph.GraphReply.TheVariants.{Shutting, Routed}
use Rattle.qs_part.specs.declared.graph.Route.{Route as Way}
use Rattle.qs_part.specs.declared.stripe.StripeOp.{StripeOp}
use Rattle.qs_part.specs.declared.stripe.StripeOp.TheVariants.{Load as LoadOp, Hold as HoldOp, Store as StoreOp, Free as FreeOp, Sync as SyncOp}
use Rattle.qs_part.specs.declared.stripe.StripeReply.{StripeReply}
use Rattle.qs_part.specs.declared.stripe.StripeReply.TheVariants.{Filled, Fault, HeldBy, Taken, Done, Freed, NotHeld, Clean, Synced}
use Rattle.qs_part.specs.declared.tracker.TrackerOp.{TrackerOp}
use Rattle.qs_part.specs.declared.tracker.TrackerOp.TheVariants.{Enter as EnterOp, List as ListOp, Start as StartOp, End as EndOp}
use Rattle.qs_part.specs.declared.tracker.TrackerReply.{TrackerReply}
use Rattle.qs_part.specs.declared.tracker.TrackerReply.TheVariants.{Entered, Quiesced, Full, Listed, Strange, Started, NotYet, Ended}
use Rattle.qs_model.specs.Requests.{Client, Pads, Stage, ToRoute, ToList, ToStart, ToLoad, ToHold, ToStore, ToSync, ToFree, ToEnd, Ready, Entering, In, edge, span_of, serial}
use Rattle.qs_bytes.specs.Geometry.{stripe_of}
use Rattle.qs_graph.specs.Table.{GraphValue, May as MayGraph, answers as graph_answers}
use Rattle.qs_request_state.specs.declared.shape.Shape.{Shape}
use Rattle.qs_request.specs.declared.todo.Todo.TheVariants.{Tracker as OnTracker, Route as OnRoute, Stripe as OnStripe, Answer}
use Rattle.qs_request.specs.Table.{WantsAt, FitsStripe, MayTrack, MayRoute, MayStripe}
use Rattle.qs_stripe.specs.Table.{StripeValue, Fits as FitsHere, answers as stripe_answers}
use Rattle.qs_tracker.specs.Seats.{seat_at, is_vacant}
use Rattle.qs_tracker.specs.Table.{TrackerValue, May, MayStart, answers}
use Rattle.qs_tracker.specs.declared.seat.Seat.TheVariants.{Vacant}
use Rattle.qs_world.proofs.RequestRows.{nowhere, tracker_todo, route_todo, stripe_todo}

-- an operation that a request wants fits a stripe of the image's shape
pub stripe_fits : (shape : Shape) (z : ℕ) (op : StripeOp) → FitsStripe shape z op → FitsHere (record { stripe = z; align = shape.align; size = shape.size }) op
stripe_fits shape z (LoadOp b k buf) fits = record { block = record { here = sym fits.0.stripe; inside = fits.0.inside }; whole = fits.2 }
stripe_fits shape z (HoldOp b k end buf) fits = record { block = record { here = sym fits.0.stripe; inside = fits.0.inside }; whole = fits.2 }
stripe_fits shape z (StoreOp b k buf) fits = record { block = record { here = sym fits.0.stripe; inside = fits.0.inside }; whole = fits.2 }
stripe_fits shape z (FreeOp b k) fits = record { here = sym fits.0.stripe; inside = fits.0.inside }
stripe_fits shape z SyncOp fits = tt

-- there are eight stripes
pub stripe_below : (shape : Shape) (z : ℕ) (op : StripeOp) → FitsStripe shape z op → z < 8
stripe_below shape z (LoadOp b k buf) fits = let is : z ≡ stripe_of b = fits.0.stripe in omega (arith, is)
stripe_below shape z (HoldOp b k end buf) fits = let is : z ≡ stripe_of b = fits.0.stripe in omega (arith, is)
stripe_below shape z (StoreOp b k buf) fits = let is : z ≡ stripe_of b = fits.0.stripe in omega (arith, is)
stripe_below shape z (FreeOp b k) fits = let is : z ≡ stripe_of b = fits.0.stripe in omega (arith, is)
stripe_below shape z SyncOp fits = fits

enter_may : (v : TrackerValue) (reply : TrackerReply) → length v.seats ≡ 256 → May v EnterOp reply → MayTrack reply Entering
enter_may v (Entered k) size may = let at = position-Some is_vacant v.seats k Vacant may.1 in omega (arith, at.0, size)
enter_may v Quiesced size may = tt
enter_may v Full size may = tt
enter_may v _ size may = absurd may

list_may : (v : TrackerValue) (k j : ℕ) (op : TrackerOp) (reply : TrackerReply) → (c : Client) (A : ℕ) → May v (ListOp k (aligned_out (span_of c) A) (serial A c)) reply → MayTrack reply (In j ToList)
list_may v k j op (Listed n) c A may = tt
list_may v k j op Strange c A may = tt
list_may v k j op _ c A may = absurd may

start_may : (v : TrackerValue) (k j : ℕ) (reply : TrackerReply) → May v (StartOp k) reply → MayTrack reply (In j ToStart)
start_may v k j Started may = tt
start_may v k j (NotYet n) may = tt
start_may v k j Strange may = tt
start_may v k j reply may = absurd (nowhere (λ s. MayStart v.seats s reply) (λ h. h) (λ h. h) (λ l h. h) (seat_at v.seats k) may)

end_may : (v : TrackerValue) (k j : ℕ) (answer : _) (reply : TrackerReply) → May v (EndOp k) reply → MayTrack reply (In j (ToEnd answer))
end_may v k j answer Ended may = tt
end_may v k j answer Strange may = tt
end_may v k j answer _ may = absurd may

pub tracker_may : (A : ℕ) (c : Client) (p : Pads) (stage : Stage) (op : TrackerOp) (reply : TrackerReply) (old new : TrackerValue) → length old.seats ≡ 256 →
    WantsAt A c p stage (OnTracker op) → answers old op reply new → MayTrack reply stage
tracker_may A c p stage op reply old new size wants row = go stage wants
  where
    by : (wanted : TrackerOp) → op ≡ wanted → May old wanted reply
    by wanted is = subst (λ (o : TrackerOp). May old o reply) is row.0

    go : (stage : Stage) → WantsAt A c p stage (OnTracker op) → MayTrack reply stage
    go (Ready v) w = let e : OnTracker op ≡ Answer v = w in absurd (cc)
    go Entering w = enter_may old reply size (by EnterOp (tracker_todo op _ w))
    go (In k ToRoute) w = let e : OnTracker op ≡ OnRoute c.export = w in absurd (cc)
    go (In k ToList) w = list_may old k k op reply c A (by (ListOp k (aligned_out (span_of c) A) (serial A c)) (tracker_todo op _ w))
    go (In k ToStart) w = start_may old k k reply (by (StartOp k) (tracker_todo op _ w))
    go (In k (ToLoad b got)) w = let e : OnTracker op ≡ OnStripe (stripe_of b) (LoadOp b k w.0) = w.1.1 in absurd (cc)
    go (In k (ToHold side)) w = let e : OnTracker op ≡ OnStripe (stripe_of (edge A c side)) (HoldOp (edge A c side) k side w.0) = w.1.1 in absurd (cc)
    go (In k (ToStore b)) w = let e : OnTracker op ≡ OnStripe (stripe_of b) (StoreOp b k w.0) = w.1.1.0 in absurd (cc)
    go (In k (ToSync n)) w = let e : OnTracker op ≡ OnStripe n SyncOp = w in absurd (cc)
    go (In k (ToFree side)) w = let e : OnTracker op ≡ OnStripe (stripe_of (edge A c side)) (FreeOp (edge A c side) k) = w in absurd (cc)
    go (In k (ToEnd v)) w = end_may old k k v reply (by (EndOp k) (tracker_todo op _ w))

route_may : (shape : Shape) (v : GraphValue) (e k : ℕ) (reply : GraphReply) → v.size ≡ shape.size → MayGraph v (RouteOp e) reply → MayRoute shape reply (In k ToRoute)
route_may shape v e k (Routed way) size may =
    let lo : way.offset ≡ 0 = ap (λ (w : Way). w.offset) may.1.1 in
    let high : way.size ≡ v.size = ap (λ (w : Way). w.size) may.1.1 in
    omega (arith, lo, high, size)
route_may shape v e k Shutting size may = tt
route_may shape v e k _ size may = absurd may

pub graph_may : (A : ℕ) (c : Client) (p : Pads) (stage : Stage) (shape : Shape) (e : ℕ) (reply : GraphReply) (old new : GraphValue) → old.size ≡ shape.size →
    WantsAt A c p stage (OnRoute e) → graph_answers old (RouteOp e) reply new → MayRoute shape reply stage
graph_may A c p stage shape e reply old new size wants row = go stage wants
  where
    go : (stage : Stage) → WantsAt A c p stage (OnRoute e) → MayRoute shape reply stage
    go (Ready v) w = let f : OnRoute e ≡ Answer v = w in absurd (cc)
    go Entering w = let f : OnRoute e ≡ OnTracker EnterOp = w in absurd (cc)
    go (In k ToRoute) w = route_may shape old c.export k reply size (subst (λ (x : ℕ). MayGraph old (RouteOp x) reply) (route_todo e c.export w) row.0)
    go (In k ToList) w = let f : OnRoute e ≡ OnTracker (ListOp k (aligned_out (span_of c) A) (serial A c)) = w in absurd (cc)
    go (In k ToStart) w = let f : OnRoute e ≡ OnTracker (StartOp k) = w in absurd (cc)
    go (In k (ToLoad b got)) w = let f : OnRoute e ≡ OnStripe (stripe_of b) (LoadOp b k w.0) = w.1.1 in absurd (cc)
    go (In k (ToHold side)) w = let f : OnRoute e ≡ OnStripe (stripe_of (edge A c side)) (HoldOp (edge A c side) k side w.0) = w.1.1 in absurd (cc)
    go (In k (ToStore b)) w = let f : OnRoute e ≡ OnStripe (stripe_of b) (StoreOp b k w.0) = w.1.1.0 in absurd (cc)
    go (In k (ToSync n)) w = let f : OnRoute e ≡ OnStripe n SyncOp = w in absurd (cc)
    go (In k (ToFree side)) w = let f : OnRoute e ≡ OnStripe (stripe_of (edge A c side)) (FreeOp (edge A c side) k) = w in absurd (cc)
    go (In k (ToEnd v)) w = let f : OnRoute e ≡ OnTracker (EndOp k) = w in absurd (cc)

-- a buffer comes back as long as it was
load_may : (shape : Shape) (b k : ℕ) (buf got : List ℕ) (reply : StripeReply) (old new : StripeValue) → old.disk.align ≡ shape.align →
    stripe_answers old (LoadOp b k buf) reply new → MayStripe shape reply (In k (ToLoad b got))
load_may shape b k buf got (Filled bytes) old new align row = row.1.whole ∙ align
load_may shape b k buf got (Fault (Some back)) old new align row = row.1.whole ∙ align
load_may shape b k buf got (Fault None) old new align row = absurd row
load_may shape b k buf got _ old new align row = absurd row

hold_may : (shape : Shape) (b k : ℕ) (side end : _) (buf : List ℕ) (reply : StripeReply) (old new : StripeValue) → old.disk.align ≡ shape.align → length buf ≡ shape.align →
    stripe_answers old (HoldOp b k end buf) reply new → MayStripe shape reply (In k (ToHold side))
hold_may shape b k side end buf (HeldBy j back) old new align whole row = ap length row.1 ∙ whole
hold_may shape b k side end buf (Taken d back) old new align whole row = ap length row.2 ∙ whole
hold_may shape b k side end buf (Filled bytes) old new align whole row = row.3.whole ∙ align
hold_may shape b k side end buf (Fault (Some back)) old new align whole row = row.3.whole ∙ align
hold_may shape b k side end buf (Fault None) old new align whole row = absurd row
hold_may shape b k side end buf _ old new align whole row = absurd row

store_may : (shape : Shape) (b k : ℕ) (buf : List ℕ) (reply : StripeReply) (old new : StripeValue) → length buf ≡ shape.align →
    stripe_answers old (StoreOp b k buf) reply new → MayStripe shape reply (In k (ToStore b))
store_may shape b k buf (HeldBy j back) old new whole row = ap length row.2 ∙ whole
store_may shape b k buf (Done back) old new whole row = ap length row.3 ∙ whole
store_may shape b k buf (Fault (Some back)) old new whole row = ap length row.3 ∙ whole
store_may shape b k buf (Fault None) old new whole row = absurd row
store_may shape b k buf _ old new whole row = absurd row

free_may : (shape : Shape) (b k : ℕ) (side : _) (reply : StripeReply) (old new : StripeValue) → stripe_answers old (FreeOp b k) reply new → MayStripe shape reply (In k (ToFree side))
free_may shape b k side Freed old new row = tt
free_may shape b k side NotHeld old new row = tt
free_may shape b k side _ old new row = absurd row

sync_may : (shape : Shape) (k n : ℕ) (reply : StripeReply) (old new : StripeValue) → stripe_answers old SyncOp reply new → MayStripe shape reply (In k (ToSync n))
sync_may shape k n Clean old new row = tt
sync_may shape k n Synced old new row = tt
sync_may shape k n (Fault None) old new row = tt
sync_may shape k n _ old new row = absurd row

pub stripe_may : (c : Client) (p : Pads) (stage : Stage) (shape : Shape) (z : ℕ) (op : StripeOp) (reply : StripeReply) (old new : StripeValue) → old.disk.align ≡ shape.align →
    WantsAt shape.align c p stage (OnStripe z op) → stripe_answers old op reply new → MayStripe shape reply stage
stripe_may c p stage shape z op reply old new align wants row = go stage wants
  where
    A : ℕ
    A = shape.align

    by : (y : ℕ) (wanted : StripeOp) → OnStripe z op ≡ OnStripe y wanted → stripe_answers old wanted reply new
    by y wanted e = subst (λ (o : StripeOp). stripe_answers old o reply new) (stripe_todo z y op wanted e).1 row

    go : (stage : Stage) → WantsAt shape.align c p stage (OnStripe z op) → MayStripe shape reply stage
    go (Ready v) w = let e : OnStripe z op ≡ Answer v = w in absurd (cc)
    go Entering w = let e : OnStripe z op ≡ OnTracker EnterOp = w in absurd (cc)
    go (In k ToRoute) w = let e : OnStripe z op ≡ OnRoute c.export = w in absurd (cc)
    go (In k ToList) w = let e : OnStripe z op ≡ OnTracker (ListOp k (aligned_out (span_of c) shape.align) (serial shape.align c)) = w in absurd (cc)
    go (In k ToStart) w = let e : OnStripe z op ≡ OnTracker (StartOp k) = w in absurd (cc)
    go (In k (ToLoad b got)) w = load_may shape b k w.0 got reply old new align (by (stripe_of b) (LoadOp b k w.0) w.1.1)
    go (In k (ToHold side)) w =
        hold_may shape (edge shape.align c side) k side side w.0 reply old new align w.1.0 (by (stripe_of (edge shape.align c side)) (HoldOp (edge shape.align c side) k side w.0) w.1.1)
    go (In k (ToStore b)) w = store_may shape b k w.0 reply old new w.1.0 (by (stripe_of b) (StoreOp b k w.0) w.1.1.0)
    go (In k (ToSync n)) w = sync_may shape k n reply old new (by n SyncOp w)
    go (In k (ToFree side)) w = free_may shape (edge shape.align c side) k side reply old new (by (stripe_of (edge shape.align c side)) (FreeOp (edge shape.align c side) k) w)
    go (In k (ToEnd v)) w = let e : OnStripe z op ≡ OnTracker (EndOp k) = w in absurd (cc)
