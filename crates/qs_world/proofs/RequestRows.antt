-- An answer of a part to a request's operation is a row of the model.
use Rattle.std.proofs.Common.{◌≡◌, ℕ, List, length, Bool, cond, refl, sym, ◌∙◌, ap, subst}
use Rattle.std.specs.Prelude.{Option, Some, None, IsTrue}
use Rattle.qs_part.specs.declared.graph.GraphOp.TheVariants.{Route as RouteOp}
use Rattle.qs_part.specs.declared.graph.GraphReply.{GraphReply}
use Rattle.qs_part.specs.declared.graph.GraphReply.TheVariants.{Shutting, Routed}
use Rattle.qs_part.specs.declared.stripe.Side.{Side}
use Rattle.qs_part.specs.declared.stripe.StripeOp.{StripeOp}
use Rattle.qs_part.specs.declared.stripe.StripeOp.TheVariants.{Load as LoadOp, Hold as HoldOp, Store as StoreOp, Free as FreeOp, Sync as SyncOp}
use Rattle.qs_part.specs.declared.stripe.StripeReply.{StripeReply}
use Rattle.qs_part.specs.declared.stripe.StripeReply.TheVariants.{Filled, Fault, HeldBy as HeldByReply, Taken as TakenReply, Done, Freed, NotHeld as NotHeldReply, Clean, Synced}
use Rattle.qs_part.specs.declared.tracker.TrackerOp.{TrackerOp}
use Rattle.qs_part.specs.declared.tracker.TrackerOp.TheVariants.{Enter as EnterOp, List as ListOp, Start as StartOp, End as EndOp}
use Rattle.qs_part.specs.declared.tracker.TrackerReply.{TrackerReply}
use Rattle.qs_part.specs.declared.tracker.TrackerReply.TheVariants.{Entered, Quiesced as QuiescedReply, Full as FullReply, Listed, Strange as StrangeReply, Started, NotYet as NotYetReply, Ended}
use Rattle.qs_model.specs.Requests.{Client, Pads, Stage, ToRoute, ToList, ToStart, ToLoad, ToHold, ToStore, ToSync, ToFree, ToEnd, Ready, Entering, In, edge, span_of, serial}
use Rattle.qs_model.specs.Worlds.{Image, World}
use Rattle.qs_bytes.specs.Geometry.{stripe_of}
use Rattle.qs_model.specs.Acts.{block_of as act_block, Act, Waits, Enters, Routes, Shuts, Lists, Starts, Loads, LoadFails, Holds, HoldFails, Stores, StoreFails, Syncs, Cleans, SyncFails, Frees, Ends, Quiesced, Full, NotYet, HeldBy, Taken, Strange, NotHeld}
use Rattle.qs_model.specs.Guards.{MayDo}
use Rattle.qs_model.specs.Steps.{tracked, imaged, plans_spent}
use Rattle.qs_outside.specs.Blocks.{Seen}
use Rattle.qs_outside.specs.declared.rigged_disk.Plans.{Plans}
use Rattle.qs_model.specs.Events.{note_of}
use Rattle.qs_bytes.specs.Spans.{aligned_out}
use Rattle.qs_graph.specs.Table.{GraphValue, May as MayGraph, after as after_graph, answers as graph_answers}
use Rattle.qs_request.specs.declared.todo.PartReply.TheVariants.{Tracker as ByTracker, Graph as ByGraph, Stripe as ByStripe}
use Rattle.qs_request.specs.Rows.{IsRow}
use Rattle.qs_request.specs.Table.{IsMerged}
use Rattle.qs_stripe.specs.Table.{StripeValue, answers as stripe_answers}
use Rattle.qs_bytes.specs.declared.ask.Verdict.{Verdict}
use Rattle.qs_tracker.specs.declared.seat.Listing.{Listing}
use Rattle.qs_tracker.specs.declared.seat.Seat.{Seat}
use Rattle.qs_tracker.specs.declared.seat.Seat.TheVariants.{Vacant, Present, Has}
use Rattle.qs_tracker.specs.Seats.{seat_at}
use Rattle.qs_tracker.specs.Table.{TrackerValue, May, MayStart, after, answers}
use Rattle.qs_request.specs.declared.todo.Todo.TheVariants.{Tracker as OnTracker, Route as OnRoute, Stripe as OnStripe, Answer}
use Rattle.qs_request.specs.Table.{WantsAt}
use Rattle.qs_world.specs.Events.{IsRowAsPlanned}
use Rattle.qs_world.specs.Images.{StandsImage, StandsPlans, Changed}
use Rattle.qs_world.specs.Notes.{tracker_note, tracker_kind, route_note, stripe_note, stripe_kind, note_place}
use Rattle.qs_world.proofs.Coming.{graph_may}
use Rattle.qs_world.proofs.StripeRows.{kept_stands, reads_stands, settled_stands, takes_stands, frees_stands, written_stands, told_past, can_read, can_hold, can_free, held_at, same_stands, holder_is, alone, not_held, can_store, may_keep, took, took_now, took_as_planned}
use Rattle.qs_world.proofs.PlanRows.{plans_same, plans_load, plans_store, plans_sync}

-- an answer of the tracker, as a row: what the tracker was and is
pub record TrackerRow (A : ℕ) (c : Client) (p : Pads) (stage : Stage) (op : TrackerOp) (reply : TrackerReply) (old new : TrackerValue) : Type 0 where
  pub act : Act stage
  pub is_row : IsRow (ByTracker reply) act
  pub note : note_of A c act ≡ Some (tracker_note (tracker_kind op) reply)
  pub guard : (w : World) → w.tracker ≡ old → MayDo A w c p act
  pub tracks : tracked A old c act ≡ new
  pub images : (i : Image) → imaged A i c act ≡ i
  pub plans : (p : ℕ → Plans) → plans_spent A p c act ≡ p
  pub as_planned : (s : ℕ → StripeValue) → IsRowAsPlanned s act
  pub off : act_block A c act ≡ None

-- what holds of no place
pub nowhere : (P : Seat → Type 0) → (P Vacant → ⊥) → (P Present → ⊥) → ((l : Listing) → P (Has l) → ⊥) → (s : Seat) → P s → ⊥
nowhere P vacant present has Vacant h = vacant h
nowhere P vacant present has Present h = present h
nowhere P vacant present has (Has l) h = has l h

-- what the tracker may answer, the model's may
may_here : (v t : TrackerValue) (op : TrackerOp) (reply : TrackerReply) → t ≡ v → May v op reply → May t op reply
may_here v t op reply same may = subst (λ (x : TrackerValue). May x op reply) (sym same) may

enter_row : (A : ℕ) (c : Client) (p : Pads) (reply : TrackerReply) (v : TrackerValue) → May v EnterOp reply →
    TrackerRow A c p Entering EnterOp reply v (after v EnterOp reply)
enter_row A c p (Entered k) v may = record {
  act = Enters k;
  is_row = refl;
  note = refl;
  guard = λ w same. may_here v w.tracker EnterOp (Entered k) same may;
  tracks = refl;
  images = λ i. refl;
  plans = λ p. refl;
  as_planned = λ s. tt;
  off = refl;
}
enter_row A c p QuiescedReply v may = record {
  act = Waits Quiesced;
  is_row = tt;
  note = refl;
  guard = λ w same. may_here v w.tracker EnterOp QuiescedReply same may;
  tracks = refl;
  images = λ i. refl;
  plans = λ p. refl;
  as_planned = λ s. tt;
  off = refl;
}
enter_row A c p FullReply v may = record {
  act = Waits Full;
  is_row = tt;
  note = refl;
  guard = λ w same. may_here v w.tracker EnterOp FullReply same may;
  tracks = refl;
  images = λ i. refl;
  plans = λ p. refl;
  as_planned = λ s. tt;
  off = refl;
}
enter_row A c p _ v may = absurd may

list_row : (A : ℕ) (c : Client) (p : Pads) (k : ℕ) (reply : TrackerReply) (v : TrackerValue) → May v (ListOp k (aligned_out (span_of c) A) (serial A c)) reply →
    TrackerRow A c p (In k ToList) (ListOp k (aligned_out (span_of c) A) (serial A c)) reply v (after v (ListOp k (aligned_out (span_of c) A) (serial A c)) reply)
list_row A c p k (Listed n) v may = record {
  act = Lists n;
  is_row = refl;
  note = refl;
  guard = λ w same. may_here v w.tracker (ListOp k (aligned_out (span_of c) A) (serial A c)) (Listed n) same may;
  tracks = refl;
  images = λ i. refl;
  plans = λ p. refl;
  as_planned = λ s. tt;
  off = refl;
}
list_row A c p k StrangeReply v may = record {
  act = Waits Strange;
  is_row = tt;
  note = refl;
  guard = λ w same. may_here v w.tracker (ListOp k (aligned_out (span_of c) A) (serial A c)) StrangeReply same may;
  tracks = refl;
  images = λ i. refl;
  plans = λ p. refl;
  as_planned = λ s. tt;
  off = refl;
}
list_row A c p k _ v may = absurd may

start_row : (A : ℕ) (c : Client) (p : Pads) (k : ℕ) (reply : TrackerReply) (v : TrackerValue) → May v (StartOp k) reply →
    TrackerRow A c p (In k ToStart) (StartOp k) reply v (after v (StartOp k) reply)
start_row A c p k Started v may = record {
  act = Starts;
  is_row = tt;
  note = refl;
  guard = λ w same. may_here v w.tracker (StartOp k) Started same may;
  tracks = refl;
  images = λ i. refl;
  plans = λ p. refl;
  as_planned = λ s. tt;
  off = refl;
}
start_row A c p k (NotYetReply n) v may = record {
  act = Waits (NotYet n);
  is_row = refl;
  note = refl;
  guard = λ w same. may_here v w.tracker (StartOp k) (NotYetReply n) same may;
  tracks = refl;
  images = λ i. refl;
  plans = λ p. refl;
  as_planned = λ s. tt;
  off = refl;
}
start_row A c p k StrangeReply v may = record {
  act = Waits Strange;
  is_row = tt;
  note = refl;
  guard = λ w same. may_here v w.tracker (StartOp k) StrangeReply same may;
  tracks = refl;
  images = λ i. refl;
  plans = λ p. refl;
  as_planned = λ s. tt;
  off = refl;
}
start_row A c p k reply v may =
    absurd (nowhere (λ s. MayStart v.seats s reply) (λ h. h) (λ h. h) (λ l h. h) (seat_at v.seats k) may)

end_row : (A : ℕ) (c : Client) (p : Pads) (k : ℕ) (answer : Verdict) (reply : TrackerReply) (v : TrackerValue) → May v (EndOp k) reply →
    TrackerRow A c p (In k (ToEnd answer)) (EndOp k) reply v (after v (EndOp k) reply)
end_row A c p k answer Ended v may = record {
  act = Ends;
  is_row = tt;
  note = refl;
  guard = λ w same. may_here v w.tracker (EndOp k) Ended same may;
  tracks = refl;
  images = λ i. refl;
  plans = λ p. refl;
  as_planned = λ s. tt;
  off = refl;
}
end_row A c p k answer StrangeReply v may = record {
  act = Waits Strange;
  is_row = tt;
  note = refl;
  guard = λ w same. may_here v w.tracker (EndOp k) StrangeReply same may;
  tracks = refl;
  images = λ i. refl;
  plans = λ p. refl;
  as_planned = λ s. tt;
  off = refl;
}
end_row A c p k answer _ v may = absurd may

pub tracker_todo : (op other : TrackerOp) → OnTracker op ≡ OnTracker other → op ≡ other
tracker_todo op other e = cc

-- the tracker answered the operation that a request wanted
pub tracker_row : (A : ℕ) (c : Client) (p : Pads) (stage : Stage) (op : TrackerOp) (reply : TrackerReply) (old new : TrackerValue) →
    WantsAt A c p stage (OnTracker op) → answers old op reply new → TrackerRow A c p stage op reply old new
tracker_row A c p stage op reply old new wants row =
    subst (λ (v : TrackerValue). TrackerRow A c p stage op reply old v) (sym row.1) (go stage wants)
  where
    by : (stage : Stage) (wanted : TrackerOp) → op ≡ wanted → (May old wanted reply → TrackerRow A c p stage wanted reply old (after old wanted reply)) →
        TrackerRow A c p stage op reply old (after old op reply)
    by stage wanted is row_of =
        subst (λ (o : TrackerOp). TrackerRow A c p stage o reply old (after old o reply)) (sym is) (row_of (subst (λ (o : TrackerOp). May old o reply) is row.0))

    go : (stage : Stage) → WantsAt A c p stage (OnTracker op) → TrackerRow A c p stage op reply old (after old op reply)
    go (Ready v) w = let e : OnTracker op ≡ Answer v = w in absurd (cc)
    go Entering w = by Entering EnterOp (tracker_todo op _ w) (λ may. enter_row A c p reply old may)
    go (In k ToRoute) w = let e : OnTracker op ≡ OnRoute c.export = w in absurd (cc)
    go (In k ToList) w = by (In k ToList) (ListOp k (aligned_out (span_of c) A) (serial A c)) (tracker_todo op _ w) (λ may. list_row A c p k reply old may)
    go (In k ToStart) w = by (In k ToStart) (StartOp k) (tracker_todo op _ w) (λ may. start_row A c p k reply old may)
    go (In k (ToLoad b got)) w = let e : OnTracker op ≡ OnStripe (stripe_of b) (LoadOp b k w.0) = w.1.1 in absurd (cc)
    go (In k (ToHold side)) w = let e : OnTracker op ≡ OnStripe (stripe_of (edge A c side)) (HoldOp (edge A c side) k side w.0) = w.1.1 in absurd (cc)
    go (In k (ToStore b)) w = let e : OnTracker op ≡ OnStripe (stripe_of b) (StoreOp b k w.0) = w.1.1.0 in absurd (cc)
    go (In k (ToSync n)) w = let e : OnTracker op ≡ OnStripe n SyncOp = w in absurd (cc)
    go (In k (ToFree side)) w = let e : OnTracker op ≡ OnStripe (stripe_of (edge A c side)) (FreeOp (edge A c side) k) = w in absurd (cc)
    go (In k (ToEnd v)) w = by (In k (ToEnd v)) (EndOp k) (tracker_todo op _ w) (λ may. end_row A c p k v reply old may)

-- an answer of the graph, as a row
pub record GraphRow (A : ℕ) (c : Client) (p : Pads) (stage : Stage) (reply : GraphReply) (v : GraphValue) : Type 0 where
  pub act : Act stage
  pub is_row : IsRow (ByGraph reply) act
  pub note : note_of A c act ≡ Some (route_note reply)
  pub guard : (w : World) → w.graph ≡ v → MayDo A w c p act
  pub tracks : (t : TrackerValue) → tracked A t c act ≡ t
  pub images : (i : Image) → imaged A i c act ≡ i
  pub plans : (p : ℕ → Plans) → plans_spent A p c act ≡ p
  pub as_planned : (s : ℕ → StripeValue) → IsRowAsPlanned s act
  pub off : act_block A c act ≡ None

route_row : (A : ℕ) (c : Client) (p : Pads) (k : ℕ) (reply : GraphReply) (v : GraphValue) → MayGraph v (RouteOp c.export) reply →
    GraphRow A c p (In k ToRoute) reply v
route_row A c p k (Routed way) v may = record {
  act = Routes way;
  is_row = refl;
  note = refl;
  guard = λ w same. graph_may v w.graph (RouteOp c.export) (Routed way) same may;
  tracks = λ t. refl;
  images = λ i. refl;
  plans = λ p. refl;
  as_planned = λ s. tt;
  off = refl;
}
route_row A c p k Shutting v may = record {
  act = Shuts;
  is_row = tt;
  note = refl;
  guard = λ w same. graph_may v w.graph (RouteOp c.export) Shutting same may;
  tracks = λ t. refl;
  images = λ i. refl;
  plans = λ p. refl;
  as_planned = λ s. tt;
  off = refl;
}
route_row A c p k _ v may = absurd may

pub route_todo : (e other : ℕ) → OnRoute e ≡ OnRoute other → e ≡ other
route_todo e other f = cc

-- the graph told the way that a request asked for, and is as it was
pub graph_row : (A : ℕ) (c : Client) (p : Pads) (stage : Stage) (e : ℕ) (reply : GraphReply) (old new : GraphValue) →
    WantsAt A c p stage (OnRoute e) → graph_answers old (RouteOp e) reply new → GraphRow A c p stage reply old × (new ≡ old)
graph_row A c p stage e reply old new wants row = go stage wants
  where
    go : (stage : Stage) → WantsAt A c p stage (OnRoute e) → GraphRow A c p stage reply old × (new ≡ old)
    go (Ready v) w = let f : OnRoute e ≡ Answer v = w in absurd (cc)
    go Entering w = let f : OnRoute e ≡ OnTracker EnterOp = w in absurd (cc)
    go (In k ToRoute) w =
        let is : e ≡ c.export = route_todo e c.export w in (
          route_row A c p k reply old (subst (λ (x : ℕ). MayGraph old (RouteOp x) reply) is row.0),
          row.1 ∙ ap (λ (x : ℕ). after_graph old (RouteOp x) reply) is,
        )
    go (In k ToList) w = let f : OnRoute e ≡ OnTracker (ListOp k (aligned_out (span_of c) A) (serial A c)) = w in absurd (cc)
    go (In k ToStart) w = let f : OnRoute e ≡ OnTracker (StartOp k) = w in absurd (cc)
    go (In k (ToLoad b got)) w = let f : OnRoute e ≡ OnStripe (stripe_of b) (LoadOp b k w.0) = w.1.1 in absurd (cc)
    go (In k (ToHold side)) w = let f : OnRoute e ≡ OnStripe (stripe_of (edge A c side)) (HoldOp (edge A c side) k side w.0) = w.1.1 in absurd (cc)
    go (In k (ToStore b)) w = let f : OnRoute e ≡ OnStripe (stripe_of b) (StoreOp b k w.0) = w.1.1.0 in absurd (cc)
    go (In k (ToSync n)) w = let f : OnRoute e ≡ OnStripe n SyncOp = w in absurd (cc)
    go (In k (ToFree side)) w = let f : OnRoute e ≡ OnStripe (stripe_of (edge A c side)) (FreeOp (edge A c side) k) = w in absurd (cc)
    go (In k (ToEnd v)) w = let f : OnRoute e ≡ OnTracker (EndOp k) = w in absurd (cc)

-- the block of an operation on one
abbrev pub block_of : StripeOp → Option ℕ
block_of (LoadOp b k buf) = Some b
block_of (HoldOp b k end buf) = Some b
block_of (StoreOp b k buf) = Some b
block_of (FreeOp b k) = Some b
block_of SyncOp = None

-- an answer of stripe z, as a row: what the stripes were and are
pub record StripeRow (A : ℕ) (c : Client) (p : Pads) (stage : Stage) (z : ℕ) (op : StripeOp) (reply : StripeReply) (tells : Bool) (s t : ℕ → StripeValue) : Type 0 where
  pub act : Act stage
  pub is_row : IsRow (ByStripe reply) act
  pub note : note_of A c act ≡ Some (stripe_note (stripe_kind op) (note_place z op) reply)
  pub guard : (w : World) → w.tells ≡ tells → StandsImage s w.tells w.image → StandsPlans s w.plans → MayDo A w c p act
  pub images : (i : Image) → StandsImage s tells i → StandsImage t tells (imaged A i c act)
  pub tracks : (r : TrackerValue) → tracked A r c act ≡ r
  pub plans : (q : ℕ → Plans) → StandsPlans s q → StandsPlans t (plans_spent A q c act)
  pub as_planned : IsRowAsPlanned s act
  pub on : (d : ℕ) → act_block A c act ≡ Some d → block_of op ≡ Some d

-- a stripe of the right shape did an operation on one of its blocks, and the others did nothing
pub record Steps (A z : ℕ) (op : StripeOp) (reply : StripeReply) (tells : Bool) (s t : ℕ → StripeValue) : Type 0 where
  pub new : StripeValue
  pub change : Changed z new s t
  pub told : IsTrue tells → IsTrue (s z).disk.tells
  pub align : (s z).disk.align ≡ A
  pub row : stripe_answers (s z) op reply new

told_for : (tells : Bool) (w : World) (d : Bool) → w.tells ≡ tells → (IsTrue tells → IsTrue d) → IsTrue w.tells → IsTrue d
told_for tells w d same told is = told (subst (λ (b : Bool). IsTrue b) same is)

load_row : (A : ℕ) (c : Client) (p : Pads) (k b : ℕ) (got buf : List ℕ) (reply : StripeReply) (tells : Bool) (s t : ℕ → StripeValue) →
    Steps A (stripe_of b) (LoadOp b k buf) reply tells s t → StripeRow A c p (In k (ToLoad b got)) (stripe_of b) (LoadOp b k buf) reply tells s t
load_row A c p k b got buf (Filled bytes) tells s t step = record {
  act = Loads bytes;
  is_row = refl;
  note = refl;
  guard = λ w same stands plans. can_read A b bytes s w stands plans (told_for tells w (s (stripe_of b)).disk.tells same step.told) step.align step.row.1;
  images = λ i stands. reads_stands (stripe_of b) step.new s t tells i step.change stands step.told step.row.0 step.row.2 step.row.3;
  tracks = λ r. refl;
  plans = λ q stands. plans_load b step.new s t q step.change stands step.row.0.planned;
  as_planned = tt;
  on = λ d is. cc;
}
load_row A c p k b got buf (Fault (Some back)) tells s t step = record {
  act = LoadFails;
  is_row = tt;
  note = refl;
  guard = λ w same stands plans. tt;
  images = λ i stands. reads_stands (stripe_of b) step.new s t tells i step.change stands step.told step.row.0 step.row.2 step.row.3;
  tracks = λ r. refl;
  plans = λ q stands. plans_load b step.new s t q step.change stands step.row.0.planned;
  as_planned = tt;
  on = λ d is. cc;
}
load_row A c p k b got buf (Fault None) tells s t step = absurd step.row
load_row A c p k b got buf _ tells s t step = absurd step.row

-- nothing changed
still : (z : ℕ) (v : StripeValue) (s t : ℕ → StripeValue) (tells : Bool) (i : Image) → Changed z v s t → v ≡ s z → StandsImage s tells i → StandsImage t tells i
still z v s t tells i change same stands = same_stands z v s t tells i change same stands

hold_row : (A : ℕ) (c : Client) (p : Pads) (k : ℕ) (side : Side) (buf : List ℕ) (reply : StripeReply) (tells : Bool) (s t : ℕ → StripeValue) →
    Steps A (stripe_of (edge A c side)) (HoldOp (edge A c side) k side buf) reply tells s t →
    StripeRow A c p (In k (ToHold side)) (stripe_of (edge A c side)) (HoldOp (edge A c side) k side buf) reply tells s t
hold_row A c p k side buf (HeldByReply j back) tells s t step = record {
  act = Waits (HeldBy j);
  is_row = refl;
  note = refl;
  guard = λ w same stands plans. holder_is j (edge A c side) s w.tells w.image stands step.row.0;
  images = λ i stands. still (stripe_of (edge A c side)) step.new s t tells i step.change step.row.2 stands;
  tracks = λ r. refl;
  plans = λ q stands. plans_same (stripe_of (edge A c side)) step.new s t q step.change stands (ap (λ (v : StripeValue). v.disk.planned) step.row.2);
  as_planned = tt;
  on = λ d is. cc;
}
hold_row A c p k side buf (TakenReply b back) tells s t step = record {
  act = Waits (Taken b);
  is_row = refl;
  note = refl;
  guard = λ w same stands plans. (
    (can_free (edge A c side) s w.tells w.image stands step.row.0),
    stands.here (stripe_of (edge A c side)) k side b step.row.1,
    held_at k b side s w.tells w.image stands (stands.here (stripe_of (edge A c side)) k side b step.row.1) step.row.1,
  );
  images = λ i stands. still (stripe_of (edge A c side)) step.new s t tells i step.change step.row.3 stands;
  tracks = λ r. refl;
  plans = λ q stands. plans_same (stripe_of (edge A c side)) step.new s t q step.change stands (ap (λ (v : StripeValue). v.disk.planned) step.row.3);
  as_planned = tt;
  on = λ d is. cc;
}
hold_row A c p k side buf (Filled bytes) tells s t step = record {
  act = Holds bytes;
  is_row = refl;
  note = refl;
  guard = λ w same stands plans. (
    can_hold k (edge A c side) side s w.tells w.image stands step.row.0 step.row.1,
    can_read A (edge A c side) bytes s w stands plans (told_for tells w (s (stripe_of (edge A c side))).disk.tells same step.told) step.align step.row.3,
  );
  images = λ i stands. takes_stands (stripe_of (edge A c side)) k (edge A c side) side step.new s t tells i refl step.change stands step.told
      step.row.2 step.row.4 step.row.0 step.row.1 step.row.5;
  tracks = λ r. refl;
  plans = λ q stands. plans_load (edge A c side) step.new s t q step.change stands step.row.2.planned;
  as_planned = tt;
  on = λ d is. cc;
}
hold_row A c p k side buf (Fault (Some back)) tells s t step = record {
  act = HoldFails;
  is_row = tt;
  note = refl;
  guard = λ w same stands plans. can_hold k (edge A c side) side s w.tells w.image stands step.row.0 step.row.1;
  images = λ i stands. reads_stands (stripe_of (edge A c side)) step.new s t tells i step.change stands step.told step.row.2 step.row.4 step.row.5;
  tracks = λ r. refl;
  plans = λ q stands. plans_load (edge A c side) step.new s t q step.change stands step.row.2.planned;
  as_planned = tt;
  on = λ d is. cc;
}
hold_row A c p k side buf (Fault None) tells s t step = absurd step.row
hold_row A c p k side buf _ tells s t step = absurd step.row

store_row : (A : ℕ) (c : Client) (p : Pads) (k b : ℕ) (buf : List ℕ) (reply : StripeReply) (tells : Bool) (s t : ℕ → StripeValue) →
    length buf ≡ A → IsMerged A c p b buf → Steps A (stripe_of b) (StoreOp b k buf) reply tells s t →
    StripeRow A c p (In k (ToStore b)) (stripe_of b) (StoreOp b k buf) reply tells s t
store_row A c p k b buf (HeldByReply j back) tells s t whole merged step = record {
  act = Waits (HeldBy j);
  is_row = refl;
  note = refl;
  guard = λ w same stands plans. let h = holder_is j b s w.tells w.image stands step.row.0 in (h.0, (h.1.0, h.1.1, step.row.1));
  images = λ i stands. still (stripe_of b) step.new s t tells i step.change step.row.3 stands;
  tracks = λ r. refl;
  plans = λ q stands. plans_same (stripe_of b) step.new s t q step.change stands (ap (λ (v : StripeValue). v.disk.planned) step.row.3);
  as_planned = tt;
  on = λ d is. cc;
}
store_row A c p k b buf (Done back) tells s t whole merged step = record {
  act = Stores buf (told_past tells step.new b);
  is_row = step.row.3;
  note = refl;
  guard = λ w same stands plans. guarded w same stands plans;
  images = λ i stands. written_stands (stripe_of b) k b buf buf step.new s t tells i refl step.change stands step.told step.row.1
      (λ tell. let is = step.row.2.now (step.told tell) in (is.here, is.others)) step.row.4 step.row.0 step.row.5;
  tracks = λ r. refl;
  plans = λ q stands. plans_store b step.new s t q step.change stands step.row.1.planned;
  as_planned = tt;
  on = λ d is. cc;
}
  where
    guarded : (w : World) → w.tells ≡ tells → StandsImage s w.tells w.image → StandsPlans s w.plans → MayDo A w c p (Stores {k = k} {b = b} buf (told_past tells step.new b))
    guarded w same stands plans =
        let told = told_for tells w (s (stripe_of b)).disk.tells same step.told in
        subst (λ (d : Bool). MayDo A w c p (Stores {k = k} {b = b} buf (told_past d step.new b))) same (
          can_store A k b c p buf step.new s w.tells w.image stands told step.row.0 whole merged step.row.1,
          may_keep b buf buf step.new s w stands told step.row.1 (λ tell. (step.row.2.now (told tell)).here),
          ap (λ (x : Plans). x.store) (plans (stripe_of b)) ∙ step.row.2.works,
        )
store_row A c p k b buf (Fault (Some back)) tells s t whole merged step = record {
  act = StoreFails buf (took tells b buf (s (stripe_of b)).disk step.new.disk step.told step.row.2) (told_past tells step.new b);
  is_row = ap Some step.row.3;
  note = refl;
  guard = λ w same stands plans. guarded w same stands plans;
  images = λ i stands. written_stands (stripe_of b) k b buf (cond (took tells b buf (s (stripe_of b)).disk step.new.disk step.told step.row.2) buf (i.now b))
      step.new s t tells i refl step.change stands step.told step.row.1
      (took_now tells b buf (i.now b) (s (stripe_of b)).disk step.new.disk step.told step.row.2 (λ tell. stands.now tell b)) step.row.4 step.row.0 step.row.5;
  tracks = λ r. refl;
  plans = λ q stands. plans_store b step.new s t q step.change stands step.row.1.planned;
  as_planned = took_as_planned tells b buf (s (stripe_of b)).disk step.new.disk step.told step.row.2;
  on = λ d is. cc;
}
  where
    guarded : (w : World) → w.tells ≡ tells → StandsImage s w.tells w.image → StandsPlans s w.plans →
        MayDo A w c p (StoreFails {k = k} {b = b} buf (took tells b buf (s (stripe_of b)).disk step.new.disk step.told step.row.2) (told_past tells step.new b))
    guarded w same stands plans =
        let told = told_for tells w (s (stripe_of b)).disk.tells same step.told in
        subst (λ (d : Bool). MayDo A w c p (StoreFails {k = k} {b = b} buf (took tells b buf (s (stripe_of b)).disk step.new.disk step.told step.row.2) (told_past d step.new b))) same (
          can_store A k b c p buf step.new s w.tells w.image stands told step.row.0 whole merged step.row.1,
          may_keep b buf (cond (took tells b buf (s (stripe_of b)).disk step.new.disk step.told step.row.2) buf (w.image.now b)) step.new s w stands told step.row.1
              (λ tell. (took_now tells b buf (w.image.now b) (s (stripe_of b)).disk step.new.disk step.told step.row.2
              (λ tell2. stands.now tell b) (subst (λ (d : Bool). IsTrue d) same tell)).0),
        )
store_row A c p k b buf (Fault None) tells s t whole merged step = absurd step.row
store_row A c p k b buf _ tells s t whole merged step = absurd step.row

free_row : (A : ℕ) (c : Client) (p : Pads) (k : ℕ) (side : Side) (reply : StripeReply) (tells : Bool) (s t : ℕ → StripeValue) →
    Steps A (stripe_of (edge A c side)) (FreeOp (edge A c side) k) reply tells s t →
    StripeRow A c p (In k (ToFree side)) (stripe_of (edge A c side)) (FreeOp (edge A c side) k) reply tells s t
free_row A c p k side Freed tells s t step = record {
  act = Frees;
  is_row = tt;
  note = refl;
  guard = λ w same stands plans. holder_is k (edge A c side) s w.tells w.image stands step.row.0;
  images = λ i stands. frees_stands (stripe_of (edge A c side)) k (edge A c side) step.new s t tells i refl step.change stands step.row.1 step.row.2
      (alone k (edge A c side) s tells i stands step.row.0) step.row.3;
  tracks = λ r. refl;
  plans = λ q stands. plans_same (stripe_of (edge A c side)) step.new s t q step.change stands (ap (λ (d : Seen). d.planned) step.row.1);
  as_planned = tt;
  on = λ d is. cc;
}
free_row A c p k side NotHeldReply tells s t step = record {
  act = Waits NotHeld;
  is_row = tt;
  note = refl;
  guard = λ w same stands plans. not_held k (edge A c side) s w.tells w.image stands step.row.0;
  images = λ i stands. still (stripe_of (edge A c side)) step.new s t tells i step.change step.row.1 stands;
  tracks = λ r. refl;
  plans = λ q stands. plans_same (stripe_of (edge A c side)) step.new s t q step.change stands (ap (λ (v : StripeValue). v.disk.planned) step.row.1);
  as_planned = tt;
  on = λ d is. cc;
}
free_row A c p k side _ tells s t step = absurd step.row

sync_row : (A : ℕ) (c : Client) (p : Pads) (k n : ℕ) (reply : StripeReply) (tells : Bool) (s t : ℕ → StripeValue) →
    Steps A n SyncOp reply tells s t → StripeRow A c p (In k (ToSync n)) n SyncOp reply tells s t
sync_row A c p k n Clean tells s t step = record {
  act = Cleans;
  is_row = tt;
  note = refl;
  guard = λ w same stands plans. stands.clean n ∙ step.row.0;
  images = λ i stands. still n step.new s t tells i step.change step.row.1 stands;
  tracks = λ r. refl;
  plans = λ q stands. plans_same n step.new s t q step.change stands (ap (λ (v : StripeValue). v.disk.planned) step.row.1);
  as_planned = tt;
  on = λ d is. is;
}
sync_row A c p k n Synced tells s t step = record {
  act = Syncs;
  is_row = tt;
  note = refl;
  guard = λ w same stands plans. (stands.clean n ∙ step.row.0, ap (λ (x : Plans). x.sync) (plans n) ∙ step.row.2.works);
  images = λ i stands. settled_stands n step.new s t tells i step.change stands step.told step.row.1 step.row.2 step.row.3 step.row.4;
  tracks = λ r. refl;
  plans = λ q stands. plans_sync n step.new s t q step.change stands step.row.1.planned;
  as_planned = tt;
  on = λ d is. is;
}
sync_row A c p k n (Fault None) tells s t step = record {
  act = SyncFails;
  is_row = refl;
  note = refl;
  guard = λ w same stands plans. stands.clean n ∙ step.row.0;
  images = λ i stands. kept_stands n step.new s t tells i step.change stands (λ tell. step.row.1.now (step.told tell)) (λ tell. step.row.2.past (step.told tell))
      step.row.3 (step.row.4 ∙ sym step.row.0);
  tracks = λ r. refl;
  plans = λ q stands. plans_sync n step.new s t q step.change stands step.row.1.planned;
  as_planned = tt;
  on = λ d is. is;
}
sync_row A c p k n _ tells s t step = absurd step.row

pub stripe_todo : (y z : ℕ) (op other : StripeOp) → OnStripe y op ≡ OnStripe z other → (y ≡ z) × (op ≡ other)
stripe_todo y z op other e = (cc, cc)

-- a stripe answered the operation that a request wanted
pub stripe_row : (A : ℕ) (c : Client) (p : Pads) (stage : Stage) (z : ℕ) (op : StripeOp) (reply : StripeReply) (tells : Bool) (s t : ℕ → StripeValue) →
    WantsAt A c p stage (OnStripe z op) → Steps A z op reply tells s t → StripeRow A c p stage z op reply tells s t
stripe_row A c p stage z op reply tells s t wants step = go stage wants
  where
    by : (stage : Stage) (y : ℕ) (wanted : StripeOp) → OnStripe z op ≡ OnStripe y wanted →
        (Steps A y wanted reply tells s t → StripeRow A c p stage y wanted reply tells s t) → StripeRow A c p stage z op reply tells s t
    by stage y wanted e row =
        let is = stripe_todo z y op wanted e in
        subst (λ (x : ℕ). StripeRow A c p stage x op reply tells s t) (sym is.0) (subst (λ (o : StripeOp). StripeRow A c p stage y o reply tells s t) (sym is.1)
        (row (subst (λ (o : StripeOp). Steps A y o reply tells s t) is.1 (subst (λ (x : ℕ). Steps A x op reply tells s t) is.0 step))))

    go : (stage : Stage) → WantsAt A c p stage (OnStripe z op) → StripeRow A c p stage z op reply tells s t
    go (Ready v) w = let e : OnStripe z op ≡ Answer v = w in absurd (cc)
    go Entering w = let e : OnStripe z op ≡ OnTracker EnterOp = w in absurd (cc)
    go (In k ToRoute) w = let e : OnStripe z op ≡ OnRoute c.export = w in absurd (cc)
    go (In k ToList) w = let e : OnStripe z op ≡ OnTracker (ListOp k (aligned_out (span_of c) A) (serial A c)) = w in absurd (cc)
    go (In k ToStart) w = let e : OnStripe z op ≡ OnTracker (StartOp k) = w in absurd (cc)
    go (In k (ToLoad b got)) w = by (In k (ToLoad b got)) (stripe_of b) (LoadOp b k w.0) w.1.1 (λ steps. load_row A c p k b got w.0 reply tells s t steps)
    go (In k (ToHold side)) w =
        by (In k (ToHold side)) (stripe_of (edge A c side)) (HoldOp (edge A c side) k side w.0) w.1.1 (λ steps. hold_row A c p k side w.0 reply tells s t steps)
    go (In k (ToStore b)) w =
        by (In k (ToStore b)) (stripe_of b) (StoreOp b k w.0) w.1.1.0 (λ steps. store_row A c p k b w.0 reply tells s t w.1.0 w.1.1.1 steps)
    go (In k (ToSync n)) w = by (In k (ToSync n)) n SyncOp w (λ steps. sync_row A c p k n reply tells s t steps)
    go (In k (ToFree side)) w =
        by (In k (ToFree side)) (stripe_of (edge A c side)) (FreeOp (edge A c side) k) w (λ steps. free_row A c p k side reply tells s t steps)
    go (In k (ToEnd v)) w = let e : OnStripe z op ≡ OnTracker (EndOp k) = w in absurd (cc)
