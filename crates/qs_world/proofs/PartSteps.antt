-- One operation of a request on each part is a step of the core.
use Rattle.std.proofs.Common.{◌≡◌, ℕ, ◌+◌, ◌*◌, zero, suc, ◌<◌, ◌≤◌, ◌⊎◌, inl, inr, List, [], ◌∷◌, length, map, Bool, true, false, ◌&&◌, refl, sym, ◌∙◌, ap, subst, arith, true≢false}
use Rattle.std.specs.Prelude.{Option, Some, None, IsTrue}
use Rattle.std.specs.List.{slice_set}
use Rattle.std.proofs.lemmas.List.{get_or-set_same, get_or-set_other, length-set, length-map, map-set}
use Rattle.qs_outside.specs.Blocks.{Seen}
use Rattle.qs_outside.specs.Faults.{Rose}
use Rattle.qs_part.specs.declared.event.Note.{Note}
use Rattle.qs_part.specs.declared.event.NoteReply.TheVariants.{Stripe as OfStripe}
use Rattle.qs_part.specs.declared.event.OpKind.{OpKind}
use Rattle.qs_part.specs.declared.event.OpKind.TheVariants.{Load as LoadKind, Hold as HoldKind, Store as StoreKind, Free as FreeKind, Sync as SyncKind}
use Rattle.qs_part.specs.declared.event.Outcome.{Outcome}
use Rattle.qs_part.specs.declared.event.Outcome.TheVariants.{Answered, Moved}
use Rattle.qs_part.specs.declared.event.StripeNote.{StripeNote}
use Rattle.qs_part.specs.declared.event.StripeNote.TheVariants.{Fault as FaultNote}
use Rattle.qs_part.specs.declared.graph.GraphOp.TheVariants.{Route as RouteOp}
use Rattle.qs_part.specs.declared.graph.GraphReply.{GraphReply}
use Rattle.qs_part.specs.declared.stripe.StripeOp.{StripeOp}
use Rattle.qs_part.specs.declared.stripe.StripeOp.TheVariants.{Load as LoadOp, Hold as HoldOp, Store as StoreOp, Free as FreeOp, Sync as SyncOp}
use Rattle.qs_part.specs.declared.stripe.StripeReply.{StripeReply}
use Rattle.qs_part.specs.declared.stripe.StripeReply.TheVariants.{Filled, Fault, HeldBy, Taken, Done, Freed, NotHeld, Clean, Synced}
use Rattle.qs_part.specs.declared.tracker.TrackerOp.{TrackerOp}
use Rattle.qs_part.specs.declared.tracker.TrackerReply.{TrackerReply}
use Rattle.qs_model.specs.Requests.{Client, Pads, Stage, Ready}
use Rattle.qs_model.proofs.Basics.{same_or}
use Rattle.qs_graph.specs.Table.{answers as graph_answers}
use Rattle.qs_request_state.specs.declared.shape.Shape.{Shape}
use Rattle.qs_request.specs.declared.todo.PartReply.{PartReply}
use Rattle.qs_request.specs.declared.todo.PartReply.TheVariants.{Tracker as ByTracker, Graph as ByGraph, Stripe as ByStripe}
use Rattle.qs_request.specs.declared.todo.Todo.TheVariants.{Tracker as OnTracker, Route as OnRoute, Stripe as OnStripe, Answer}
use Rattle.qs_request.specs.Table.{WantsAt, FitsStripe}
use Rattle.qs_request.specs.Value.{IsReady}
use Rattle.qs_stripe.specs.Table.{StripeState, StripeValue, answers as stripe_answers, geometry, value_of as stripe_value}
use Rattle.qs_tracker.specs.Table.{TrackerValue, answers}
use Rattle.qs_world.specs.declared.live.Live.{Live}
use Rattle.qs_world.specs.Cores.{StepsRequest}
use Rattle.qs_world.specs.Events.{HasCause, IsCaused, calls_stripe, is_of_stripe, stripe_by}
use Rattle.qs_world.proofs.SameDisks.{called_disks, later_disk, uncalled}
use Rattle.qs_world.specs.Follows.{Follows, IsElement, waiting}
use Rattle.qs_world.specs.Images.{Changed, stripe_at, all_tell, no_stripe}
use Rattle.qs_world.specs.Notes.{tracker_note, tracker_kind, route_note, stripe_note, stripe_kind, note_place, short}
use Rattle.qs_world.specs.Sound.{IsSound, IsStripe}
use Rattle.qs_world.specs.Values.{WorldValue, stripes_of}
use Rattle.qs_world.proofs.Answering.{did_answers, req}
use Rattle.qs_world.proofs.RequestRows.{Steps, block_of, tracker_row, graph_row, stripe_row}
use Rattle.qs_tracker.proofs.Rows.{after_length}

-- a request that wants an operation isn't ready to answer
tracker_going : (A : ℕ) (c : Client) (p : Pads) (stage : Stage) (op : TrackerOp) → WantsAt A c p stage (OnTracker op) → IsReady stage → ⊥
tracker_going A c p (Ready v) op w h = let e : OnTracker op ≡ Answer v = w in absurd (cc)
tracker_going A c p _ op w h = h

graph_going : (A : ℕ) (c : Client) (p : Pads) (stage : Stage) (e : ℕ) → WantsAt A c p stage (OnRoute e) → IsReady stage → ⊥
graph_going A c p (Ready v) e w h = let f : OnRoute e ≡ Answer v = w in absurd (cc)
graph_going A c p _ e w h = h

stripe_going : (A : ℕ) (c : Client) (p : Pads) (stage : Stage) (z : ℕ) (op : StripeOp) → WantsAt A c p stage (OnStripe z op) → IsReady stage → ⊥
stripe_going A c p (Ready v) z op w h = let e : OnStripe z op ≡ Answer v = w in absurd (cc)
stripe_going A c p _ z op w h = h

-- an operation of a stripe stands on something
pub by_place : (kind : OpKind) (at : Option ℕ) (j : ℕ) → stripe_by kind at ≡ Some j → (b : ℕ) × (at ≡ Some b)
by_place LoadKind (Some b) j is = (b, refl)
by_place HoldKind (Some b) j is = (b, refl)
by_place StoreKind (Some b) j is = (b, refl)
by_place FreeKind (Some b) j is = (b, refl)
by_place SyncKind (Some b) j is = (b, refl)
by_place _ _ j is = absurd (cc)

-- an answer of a part that has no disk
no_cause : {D : Type 0} (seen : D → Seen) (old new : WorldValue D) (l : Live) (reply : PartReply) (note : Note) (at : ℕ) (requests : List Live) (outcome : Outcome) →
    note.at ≡ None → Follows l reply note at requests outcome new.requests → IsCaused seen old outcome new
no_cause seen old new l reply note at requests (Moved n) none follows = λ j is fault.
    let (b, there) = by_place n.kind n.at j is in
    absurd (never b (sym (ap (λ (i : Note). i.at) follows.0 ∙ none) ∙ there))
  where
    never : (b : ℕ) → None ≡ Some b → ⊥
    never b e = cc
no_cause seen old new l reply note at requests _ none follows = tt

no_block : (b : ℕ) → None ≡ Some b → ⊥
no_block b e = cc

one_number : (x y : ℕ) → Some x ≡ Some y → x ≡ y
one_number x y e = cc

-- the disks of a core whose stripes are as they were
pub same_stripes : {D : Type 0} (seen : D → Seen) (old new : WorldValue D) → new.shape ≡ old.shape → new.stripes ≡ old.stripes → (j : ℕ) → IsStripe seen old j → IsStripe seen new j
same_stripes seen old new shape same j is = rw (same, shape) is

pub tracker_steps : {D : Type 0} (seen : D → Seen) (old new : WorldValue D) (at : ℕ) (l : Live) (op : TrackerOp) (reply : TrackerReply) (outcome : Outcome) →
    IsSound seen old → IsElement old.requests at l → WantsAt old.shape.align (req l).client (req l).pads (req l).stage (OnTracker op) →
    answers old.tracker op reply new.tracker → new.shape ≡ old.shape → new.next ≡ old.next → new.sessions ≡ old.sessions → new.graph ≡ old.graph → new.stripes ≡ old.stripes →
    Follows (waiting l) (ByTracker reply) (tracker_note (tracker_kind op) reply) at (slice_set old.requests at (waiting l)) outcome new.requests →
    StepsRequest seen old l.number outcome new
tracker_steps seen old new at l op reply outcome sound e wants row shape next sessions graph stripes follows =
    let r = tracker_row old.shape.align (req l).client (req l).pads (req l).stage op reply old.tracker new.tracker wants row in
    did_answers seen old new at l r.act (ByTracker reply) (tracker_note (tracker_kind op) reply) outcome sound e
    (tracker_going old.shape.align (req l).client (req l).pads (req l).stage op wants) r.is_row r.note
    (record {
      leaves = record { shape = shape; next = next; sessions = sessions; graph = graph; tells = ap (λ (s : List (StripeState _)). all_tell (map (stripe_value seen) s)) stripes };
      count = rw stripes sound.count;
      stripes = λ j h. same_stripes seen old new shape stripes j (sound.stripes j h);
      seats = ap (λ (v : TrackerValue). length v.seats) row.1 ∙ after_length old.tracker op reply ∙ sound.seats;
    })
    (λ m stands. r.guard m stands.tracker) r.tracks
    (λ i stands. rw (r.images i, stripes) stands) (λ p stands. rw (r.plans p, stripes) stands) (r.as_planned (stripe_at (stripes_of seen old)))
    (λ b is. absurd (no_block b (sym r.off ∙ is))) follows
    (uncalled seen old new outcome stripes
    (no_cause seen old new (waiting l) (ByTracker reply) (tracker_note (tracker_kind op) reply) at (slice_set old.requests at (waiting l)) outcome refl follows))

pub graph_steps : {D : Type 0} (seen : D → Seen) (old new : WorldValue D) (at : ℕ) (l : Live) (place : ℕ) (reply : GraphReply) (outcome : Outcome) →
    IsSound seen old → IsElement old.requests at l → WantsAt old.shape.align (req l).client (req l).pads (req l).stage (OnRoute place) →
    graph_answers old.graph (RouteOp place) reply new.graph → new.shape ≡ old.shape → new.next ≡ old.next → new.sessions ≡ old.sessions → new.tracker ≡ old.tracker → new.stripes ≡ old.stripes →
    Follows (waiting l) (ByGraph reply) (route_note reply) at (slice_set old.requests at (waiting l)) outcome new.requests →
    StepsRequest seen old l.number outcome new
graph_steps seen old new at l place reply outcome sound e wants row shape next sessions tracker stripes follows =
    let both = graph_row old.shape.align (req l).client (req l).pads (req l).stage place reply old.graph new.graph wants row in
    let r = both.0 in
    did_answers seen old new at l r.act (ByGraph reply) (route_note reply) outcome sound e
    (graph_going old.shape.align (req l).client (req l).pads (req l).stage place wants) r.is_row r.note
    (record {
      leaves = record { shape = shape; next = next; sessions = sessions; graph = both.1; tells = ap (λ (s : List (StripeState _)). all_tell (map (stripe_value seen) s)) stripes };
      count = rw stripes sound.count;
      stripes = λ j h. same_stripes seen old new shape stripes j (sound.stripes j h);
      seats = rw tracker sound.seats;
    })
    (λ m stands. r.guard m stands.graph)
    (r.tracks old.tracker ∙ sym tracker)
    (λ i stands. rw (r.images i, stripes) stands) (λ p stands. rw (r.plans p, stripes) stands) (r.as_planned (stripe_at (stripes_of seen old)))
    (λ b is. absurd (no_block b (sym r.off ∙ is))) follows
    (uncalled seen old new outcome stripes
    (no_cause seen old new (waiting l) (ByGraph reply) (route_note reply) at (slice_set old.requests at (waiting l)) outcome refl follows))

-- where all disks tell their content, each does
pub all_tell_at : (vs : List StripeValue) (j : ℕ) → j < length vs → IsTrue (all_tell vs) → IsTrue (stripe_at vs j).disk.tells
all_tell_at [] j inside all = absurd (omega arith)
all_tell_at (v ∷ vs) zero inside all = first v.disk.tells all
  where
    first : (b : Bool) → IsTrue (b && all_tell vs) → IsTrue b
    first true h = refl
    first false h = h
all_tell_at (v ∷ vs) (suc j) inside all = all_tell_at vs j (omega arith) (rest v.disk.tells all)
  where
    rest : (b : Bool) → IsTrue (b && all_tell vs) → IsTrue (all_tell vs)
    rest true h = h
    rest false h = absurd (never h)
      where
        never : IsTrue false → ⊥
        never f = cc

pub all_tell_set : (vs : List StripeValue) (j : ℕ) (v : StripeValue) → j < length vs → v.disk.tells ≡ (stripe_at vs j).disk.tells → all_tell (slice_set vs j v) ≡ all_tell vs
all_tell_set [] j v inside same = refl
all_tell_set (w ∷ vs) zero v inside same = ap (λ (b : Bool). b && all_tell vs) same
all_tell_set (w ∷ vs) (suc j) v inside same = ap (λ (b : Bool). w.disk.tells && b) (all_tell_set vs j v (omega arith) same)

-- a fault has a raised count
rose_at : (old new : StripeValue) (op : StripeOp) (reply : StripeReply) → stripe_answers old op reply new → short reply ≡ FaultNote → Rose old.disk.faults new.disk.faults
rose_at old new (LoadOp b k buf) (Fault (Some back)) row is = row.1.rose
rose_at old new (HoldOp b k end buf) (Fault (Some back)) row is = row.3.rose
rose_at old new (StoreOp b k buf) (Fault (Some back)) row is = row.2.rose
rose_at old new (LoadOp b k buf) (Filled got) row is = cc
rose_at old new (HoldOp b k end buf) (HeldBy j back) row is = cc
rose_at old new (HoldOp b k end buf) (Taken c back) row is = cc
rose_at old new (HoldOp b k end buf) (Filled got) row is = cc
rose_at old new (StoreOp b k buf) (HeldBy j back) row is = cc
rose_at old new (StoreOp b k buf) (Done back) row is = cc
rose_at old new (FreeOp b k) Freed row is = cc
rose_at old new (FreeOp b k) NotHeld row is = cc
rose_at old new SyncOp (Fault None) row is = row.2.rose
rose_at old new SyncOp Clean row is = cc
rose_at old new SyncOp Synced row is = cc
rose_at old new _ _ row is = absurd row

same_inside : (shape : Shape) (b d : ℕ) → Some b ≡ Some d → (b + 1) * shape.align ≤ shape.size → (d + 1) * shape.align ≤ shape.size
same_inside shape b d is inside = subst (λ (x : ℕ). (x + 1) * shape.align ≤ shape.size) (one_number b d is) inside

-- an operation is on its stripe
pub stripe_is : (shape : Shape) (z : ℕ) (op : StripeOp) → FitsStripe shape z op → stripe_by (stripe_kind op) (Some (note_place z op)) ≡ Some z
stripe_is shape z (LoadOp b k buf) fits = ap Some (sym fits.0.stripe)
stripe_is shape z (HoldOp b k end buf) fits = ap Some (sym fits.0.stripe)
stripe_is shape z (StoreOp b k buf) fits = ap Some (sym fits.0.stripe)
stripe_is shape z (FreeOp b k) fits = ap Some (sym fits.0.stripe)
stripe_is shape z SyncOp fits = refl

-- and on a block inside the image, or on none
pub block_inside : (shape : Shape) (z : ℕ) (op : StripeOp) (d : ℕ) → FitsStripe shape z op → block_of op ≡ Some d → (d + 1) * shape.align ≤ shape.size
block_inside shape z (LoadOp b k buf) d fits is = same_inside shape b d is fits.0.inside
block_inside shape z (HoldOp b k end buf) d fits is = same_inside shape b d is fits.0.inside
block_inside shape z (StoreOp b k buf) d fits is = same_inside shape b d is fits.0.inside
block_inside shape z (FreeOp b k) d fits is = same_inside shape b d is fits.0.inside
block_inside shape z SyncOp d fits is = absurd (no_block d is)

-- a block has bytes
some_bytes : (align : ℕ) → (align ≡ 512) ⊎ (align ≡ 4096) → 0 < align
some_bytes align (inl e) = omega arith
some_bytes align (inr e) = omega arith

-- the core's stripes behind an operation of one
pub record StripeChanged {D : Type 0} (seen : D → Seen) (old new : WorldValue D) (z : ℕ) (s t : StripeState D) : Type 0 where
  pub inside : z < length old.stripes
  pub was : stripe_at (stripes_of seen old) z ≡ stripe_value seen s
  pub is : new.stripes ≡ slice_set old.stripes z t

pub changed_values : {D : Type 0} (seen : D → Seen) (old new : WorldValue D) (z : ℕ) (s t : StripeState D) → StripeChanged seen old new z s t →
    stripes_of seen new ≡ slice_set (stripes_of seen old) z (stripe_value seen t)
changed_values seen old new z s t c = ap (λ (xs : List (StripeState _)). map (stripe_value seen) xs) c.is ∙ map-set (stripe_value seen) old.stripes z t

pub many_values : {D : Type 0} (seen : D → Seen) (old : WorldValue D) (z : ℕ) → z < length old.stripes → z < length (stripes_of seen old)
many_values seen old z h = omega (arith, h, length-map old.stripes (stripe_value seen))

pub changed_of : {D : Type 0} (seen : D → Seen) (old new : WorldValue D) (z : ℕ) (s t : StripeState D) → StripeChanged seen old new z s t →
    Changed z (stripe_value seen t) (stripe_at (stripes_of seen old)) (stripe_at (stripes_of seen new))
changed_of seen old new z s t c = record {
  this = ap (λ (vs : List StripeValue). stripe_at vs z) (changed_values seen old new z s t c)
      ∙ get_or-set_same (stripes_of seen old) z (stripe_value seen t) no_stripe (many_values seen old z c.inside);
  others = λ i n. ap (λ (vs : List StripeValue). stripe_at vs i) (changed_values seen old new z s t c)
      ∙ get_or-set_other (stripes_of seen old) z i (stripe_value seen t) no_stripe n;
}

-- each stripe is of its number and of the image's shape
pub changed_stripes : {D : Type 0} (seen : D → Seen) (old new : WorldValue D) (z : ℕ) (s t : StripeState D) → StripeChanged seen old new z s t → new.shape ≡ old.shape →
    geometry (stripe_value seen t) ≡ geometry (stripe_value seen s) → (j : ℕ) → IsStripe seen old j → IsStripe seen new j
changed_stripes seen old new z s t c shape same j is =
    rw shape (elim (same_or j z) [
      | inl e ↦ ap (λ (i : ℕ). geometry (stripe_at (stripes_of seen new) i)) e ∙ ap geometry (changed_of seen old new z s t c).this ∙ same
          ∙ sym (ap geometry c.was) ∙ ap (λ (i : ℕ). geometry (stripe_at (stripes_of seen old) i)) (sym e) ∙ is
      | inr n ↦ ap geometry ((changed_of seen old new z s t c).others j n) ∙ is
    ])

-- a fault of a stripe comes only where its disk's count rose
stripe_cause : {D : Type 0} (seen : D → Seen) (old new : WorldValue D) (l : Live) (reply : PartReply) (kind : OpKind) (place z : ℕ) (answer : StripeReply) (at : ℕ) (requests : List Live)
    (outcome : Outcome) → stripe_by kind (Some place) ≡ Some z →
    (short answer ≡ FaultNote → Rose (stripe_at (stripes_of seen old) z).disk.faults (stripe_at (stripes_of seen new) z).disk.faults) →
    Follows l reply (stripe_note kind place answer) at requests outcome new.requests → IsCaused seen old outcome new
stripe_cause seen old new l reply kind place z answer at requests (Moved n) by rose follows = λ j is fault.
    subst (λ (x : ℕ). Rose (stripe_at (stripes_of seen old) x).disk.faults (stripe_at (stripes_of seen new) x).disk.faults)
    (one_number z j (sym by ∙ sym (ap (λ (i : Note). stripe_by i.kind i.at) follows.0) ∙ is))
    (rose (one_note (short answer) FaultNote (sym (ap (λ (i : Note). i.reply) follows.0) ∙ fault)))
  where
    one_note : (x y : StripeNote) → OfStripe x ≡ OfStripe y → x ≡ y
    one_note x y e = cc
stripe_cause seen old new l reply kind place z answer at requests _ by rose follows = tt

-- an operation of a stripe is told as one
stripe_called : {D : Type 0} (seen : D → Seen) (l : Live) (reply : PartReply) (kind : OpKind) (place : ℕ) (answer : StripeReply) (at : ℕ) (requests : List Live) (outcome : Outcome)
    (left : List Live) → Follows l reply (stripe_note kind place answer) at requests outcome left → calls_stripe outcome ≡ true
stripe_called seen l reply kind place answer at requests (Moved n) left follows = ap (λ (i : Note). is_of_stripe i.reply) follows.0
stripe_called seen l reply kind place answer at requests (Answered v n) left follows = ap (λ (o : Option Note). calls_stripe (Answered v o)) follows.0
stripe_called seen l reply kind place answer at requests _ left follows = absurd follows

pub stripe_steps : {D : Type 0} (seen : D → Seen) (old new : WorldValue D) (at : ℕ) (l : Live) (z : ℕ) (op : StripeOp) (reply : StripeReply) (s t : StripeState D) (outcome : Outcome) →
    IsSound seen old → IsElement old.requests at l → WantsAt old.shape.align (req l).client (req l).pads (req l).stage (OnStripe z op) → FitsStripe old.shape z op → z < 8 →
    stripe_at (stripes_of seen old) z ≡ stripe_value seen s → new.stripes ≡ slice_set old.stripes z t →
    stripe_answers (stripe_value seen s) op reply (stripe_value seen t) → geometry (stripe_value seen t) ≡ geometry (stripe_value seen s) →
    new.shape ≡ old.shape → new.next ≡ old.next → new.sessions ≡ old.sessions → new.graph ≡ old.graph → new.tracker ≡ old.tracker →
    Follows (waiting l) (ByStripe reply) (stripe_note (stripe_kind op) (note_place z op) reply) at (slice_set old.requests at (waiting l)) outcome new.requests →
    StepsRequest seen old l.number outcome new
stripe_steps seen old new at l z op reply s t outcome sound e wants fits below was is row same shape next sessions graph tracker follows =
    let c : StripeChanged seen old new z s t = record { inside = omega (arith, below, sound.count); was = was; is = is } in
    let change = changed_of seen old new z s t c in
    let here : stripe_answers (stripe_at (stripes_of seen old) z) op reply (stripe_value seen t) =
    subst (λ (v : StripeValue). stripe_answers v op reply (stripe_value seen t)) (sym was) row in
    let step : Steps old.shape.align z op reply (all_tell (stripes_of seen old)) (stripe_at (stripes_of seen old)) (stripe_at (stripes_of seen new)) = record {
      new = stripe_value seen t;
      change = change;
      told = all_tell_at (stripes_of seen old) z (many_values seen old z c.inside);
      align = ap (λ (g : _). g.align) (sound.stripes z below);
      row = here;
    } in
    let later = later_disk (stripe_at (stripes_of seen old) z) (stripe_value seen t) op reply here in
    let r = stripe_row old.shape.align (req l).client (req l).pads (req l).stage z op reply (all_tell (stripes_of seen old))
    (stripe_at (stripes_of seen old)) (stripe_at (stripes_of seen new)) wants step in
    did_answers seen old new at l r.act (ByStripe reply) (stripe_note (stripe_kind op) (note_place z op) reply) outcome sound e
    (stripe_going old.shape.align (req l).client (req l).pads (req l).stage z op wants) r.is_row r.note
    (record {
      leaves = record {
        shape = shape;
        next = next;
        sessions = sessions;
        graph = graph;
        tells = ap all_tell (changed_values seen old new z s t c)
            ∙ all_tell_set (stripes_of seen old) z (stripe_value seen t) (many_values seen old z c.inside)
            later.0.tells;
      };
      count = ap length is ∙ length-set old.stripes z t ∙ sound.count;
      stripes = λ j h. changed_stripes seen old new z s t c shape same j (sound.stripes j h);
      seats = rw tracker sound.seats;
    })
    (λ m stands. r.guard m stands.tells stands.image stands.plans)
    (r.tracks old.tracker ∙ sym tracker)
    r.images r.plans r.as_planned
    (λ b on. (some_bytes old.shape.align sound.shape.align, block_inside old.shape z op b fits (r.on b on))) follows
    (record {
      disks = called_disks seen old new z (stripe_value seen t) (ap length is ∙ length-set old.stripes z t) change later;
      fault = stripe_cause seen old new (waiting l) (ByStripe reply) (stripe_kind op) (note_place z op) z reply at (slice_set old.requests at (waiting l)) outcome
          (stripe_is old.shape z op fits)
          (λ fault. subst (λ (v : StripeValue). Rose (stripe_at (stripes_of seen old) z).disk.faults v.disk.faults) (sym change.this)
          (rose_at (stripe_at (stripes_of seen old) z) (stripe_value seen t) op reply here fault)) follows;
      rest = λ e. absurd (true≢false (sym (stripe_called seen (waiting l) (ByStripe reply) (stripe_kind op) (note_place z op) reply at (slice_set old.requests at (waiting l)) outcome
          new.requests follows) ∙ e));
    })
