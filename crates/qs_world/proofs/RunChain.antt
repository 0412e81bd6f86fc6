-- A run of whole blocks is steps of the core, one after the other.
use Rattle.std.proofs.Common.{◌≡◌, ◌≢◌, ℕ, zero, suc, ◌<◌, ◌≤◌, ◌⊎◌, inl, inr, List, length, map, false, refl, sym, ap, subst, ◌∙◌, arith}
use Rattle.std.specs.Prelude.{Option, Some, None, slice_index_or, ◌==◌, if◌then◌else◌}
use Rattle.std.specs.List.{slice_set}
use Rattle.std.proofs.Math.Path.{fun_ext}
use Rattle.std.proofs.Math.ListN.{get_or-eq_default, get_or-map}
use Rattle.std.proofs.lemmas.Bool.{cases_lt}
use Rattle.std.proofs.lemmas.Bool.Decides.{eqb_tells}
use Rattle.std.proofs.lemmas.List.{get_or_default, get_or-set_same, get_or-set_other, length-set, length-map, map-set, set-get_or}
use Rattle.qs_outside.specs.Blocks.{Seen, Fixed}
use Rattle.qs_outside.specs.Runs.{EndsAt, InOrder}
use Rattle.qs_part.specs.declared.event.Actor.TheVariants.{Request as ARequest}
use Rattle.qs_part.specs.declared.event.Event.{Event}
use Rattle.qs_part.specs.declared.event.Event.TheVariants.{Step}
use Rattle.qs_part.specs.declared.event.Note.{Note}
use Rattle.qs_part.specs.declared.event.Outcome.{Outcome}
use Rattle.qs_part.specs.declared.event.Outcome.TheVariants.{NotNext, Memory, Moved}
use Rattle.qs_part.specs.declared.stripe.Side.{Side}
use Rattle.qs_part.specs.declared.stripe.Side.TheVariants.{Head, Tail}
use Rattle.qs_part.specs.declared.stripe.StripeOp.{StripeOp}
use Rattle.qs_part.specs.declared.stripe.StripeOp.TheVariants.{Load, Store}
use Rattle.qs_part.specs.declared.stripe.StripeReply.{StripeReply}
use Rattle.qs_part.specs.declared.stripe.StripeReply.TheVariants.{Filled, Fault, HeldBy, Done}
use Rattle.qs_model.specs.Requests.{Req}
use Rattle.qs_model.proofs.Basics.{same_or}
use Rattle.qs_request_state.specs.declared.shape.Shape.{Shape}
use Rattle.qs_request.specs.declared.todo.PartReply.TheVariants.{Stripe as ByStripe}
use Rattle.qs_request.specs.RunSteps.{Both, DoesOne, RanOut}
use Rattle.qs_request.specs.RunSteps.{IsTold as IsNoted}
use Rattle.qs_request.specs.RunSteps.{GoesOn as ReqGoesOn}
use Rattle.qs_request.specs.Table.{followed}
use Rattle.qs_request.specs.Value.{IsReady}
use Rattle.qs_stripe.specs.declared.holds.Ends.{Ends}
use Rattle.qs_stripe.specs.Holds.{LetsGo, held_at_end, ends_without, holds_of, hold_left, no_ends}
use Rattle.qs_stripe.specs.Table.{StripeState, StripeValue, answers as stripe_answers, geometry, value_of as stripe_value}
use Rattle.qs_world.specs.declared.live.Live.{Live}
use Rattle.qs_world.specs.Cores.{StepsRequest}
use Rattle.qs_world.specs.Follows.{Follows, IsElement, moved_to, next_of, waiting}
use Rattle.qs_world.specs.Notes.{note_place, stripe_kind, stripe_note}
use Rattle.qs_world.specs.Running.{GoesOn, IsStepOutcome, OneStep, Repeats, RepeatsRequest, RepeatsTo, RunsRequest, meant, stripe_meant}
use Rattle.qs_world.specs.Sound.{IsSound}
use Rattle.qs_world.specs.Values.{WorldValue, request_at}
use Rattle.qs_world.proofs.Answering.{idle_at, req, set_twice}
use Rattle.qs_world.proofs.Handling.{IsTold, told}
use Rattle.qs_world.proofs.Indexing.{stripe_here, written_at}
use Rattle.qs_world.proofs.Meant.{meant_cause, meant_sound, meant_steps, own, sound_meant}
use Rattle.qs_world.proofs.PartSteps.{stripe_steps}
use Rattle.qs_world.proofs.SameDisks.{later_disk}

never_some : (b : ℕ) → None ≡ Some b → ⊥
never_some b e = cc

other_some : (c b : ℕ) → c ≢ b → Some c ≡ Some b → ⊥
other_some c b n e = n (one e)
  where
    one : Some c ≡ Some b → c ≡ b
    one f = cc

-- places that let a block go
without_at : (ends : Ends) (b : ℕ) (side : Side) → held_at_end (ends_without ends b) side ≡ hold_left (held_at_end ends side) b
without_at ends b Head = refl
without_at ends b Tail = refl

left_is : (k b : ℕ) (side : Side) (old new : ℕ → Side → Option ℕ) (held : Option ℕ) → LetsGo k b old new → old k side ≡ held → hold_left held b ≡ new k side
left_is k b side old new None goes is = sym (goes.others k side (inr (λ e. never_some b (sym is ∙ e))) ∙ is)
left_is k b side old new (Some c) goes is = elim (eqb_tells c b) [
  | inl same ↦ ap (λ t. if t then None else Some c) same.0 ∙ sym (goes.gone side (is ∙ ap Some same.1))
  | inr other ↦ ap (λ t. if t then None else Some c) other.0 ∙ sym (goes.others k side (inr (λ e. other_some c b other.1 (sym is ∙ e))) ∙ is)
]

let_go_at : (places : List Ends) (k b : ℕ) (new : ℕ → Side → Option ℕ) → LetsGo k b (holds_of places) new → (j : ℕ) (side : Side) →
    holds_of (slice_set places k (ends_without (slice_index_or places k no_ends) b)) j side ≡ new j side
let_go_at places k b new goes j side = elim (same_or j k) [
  | inr other ↦
      ap (λ (e : Ends). held_at_end e side) (get_or-set_other places k j (ends_without (slice_index_or places k no_ends) b) no_ends other)
      ∙ sym (goes.others j side (inl other))
  | inl same ↦ elim (cases_lt k (length places)) [
    | inl inside ↦
        ap (λ n. holds_of (slice_set places k (ends_without (slice_index_or places k no_ends) b)) n side) same
        ∙ ap (λ (e : Ends). held_at_end e side) (get_or-set_same places k (ends_without (slice_index_or places k no_ends) b) no_ends inside)
        ∙ without_at (slice_index_or places k no_ends) b side
        ∙ left_is k b side (holds_of places) new (holds_of places k side) goes refl
        ∙ sym (ap (λ n. new n side) same)
    | inr past ↦
        let none : slice_index_or places k no_ends ≡ no_ends = get_or-eq_default places no_ends past in
        let still = get_or-eq_default (slice_set places k (ends_without (slice_index_or places k no_ends) b)) no_ends {n = k} (omega (arith, past, length-set places k (ends_without (slice_index_or places k no_ends) b))) in
        ap (λ n. holds_of (slice_set places k (ends_without (slice_index_or places k no_ends) b)) n side) same
        ∙ ap (λ (e : Ends). held_at_end e side) (still ∙ sym none)
        ∙ sym (ap (λ n. new n side) same ∙ goes.others k side (inr (λ e. never_some b (sym (ap (λ (x : Ends). held_at_end x side) none ∙ nothing side) ∙ e))))
  ]
]
  where
    nothing : (s : Side) → held_at_end no_ends s ≡ None
    nothing Head = refl
    nothing Tail = refl

-- the stripe behind an operation of a run, as its disk means it
with_hold : (v : StripeValue) (hold : ℕ → Side → Option ℕ) → v.hold ≡ hold → record { disk = v.disk; hold = hold; clean = v.clean } ≡ v
with_hold v hold is = ap (λ (h : ℕ → Side → Option ℕ). record { disk = v.disk; hold = h; clean = v.clean }) (sym is)

kept_holds : (s : StripeState Seen) (v : StripeValue) → v.hold ≡ holds_of s.places → (t : StripeState Seen) × (stripe_value own t ≡ v)
kept_holds s v is = (record { disk = v.disk; places = s.places; clean = v.clean }, with_hold v (holds_of s.places) is)

let_go : (s : StripeState Seen) (k b : ℕ) (v : StripeValue) → LetsGo k b (holds_of s.places) v.hold → (t : StripeState Seen) × (stripe_value own t ≡ v)
let_go s k b v goes =
    let places : List Ends = slice_set s.places k (ends_without (slice_index_or s.places k no_ends) b) in
    let same : holds_of places ≡ v.hold = fun_ext (λ j. fun_ext (λ side. let_go_at s.places k b v.hold goes j side)) in
    (record { disk = v.disk; places = places; clean = v.clean }, with_hold v (holds_of places) (sym same))

state_behind : (s : StripeState Seen) (op : StripeOp) (reply : StripeReply) (note : Note) (v : StripeValue) → stripe_answers (stripe_value own s) op reply v →
    IsNoted note op reply → (t : StripeState Seen) × (stripe_value own t ≡ v)
state_behind s (Load b k buf) (Filled got) note v row is = kept_holds s v row.2
state_behind s (Load b k buf) (Fault (Some back)) note v row is = kept_holds s v row.2
state_behind s (Store b k buf) (Done back) note v row is = let_go s k b v row.4
state_behind s (Store b k buf) (Fault (Some back)) note v row is = let_go s k b v row.4
state_behind s (Store b k buf) (HeldBy j back) note v row is = (s, sym row.3)
state_behind s (Load b k buf) (Fault None) note v row is = absurd row
state_behind s (Store b k buf) (Fault None) note v row is = absurd row
state_behind s _ _ note v row is = absurd is

-- the note of an operation of a run is the core's
one_note : (note : Note) (s : ℕ) (op : StripeOp) (reply : StripeReply) → IsNoted note op reply → note ≡ stripe_note (stripe_kind op) (note_place s op) reply
one_note note s (Load b k buf) (Filled got) is = is
one_note note s (Load b k buf) (Fault back) is = is
one_note note s (Store b k buf) (Done back) is = is
one_note note s (Store b k buf) (Fault back) is = is
one_note note s (Store b k buf) (HeldBy j back) is = is
one_note note s _ _ is = absurd is

geometry_kept : (v w : StripeValue) → Fixed v.disk w.disk → geometry w ≡ geometry v
geometry_kept v w fixed = rw (fixed.stripe, fixed.align, fixed.size) refl

abbrev both : Req → StripeValue → Both
both q v = record { request = q; stripe = v }

-- the core where one request and one stripe have moved on
abbrev next_world : WorldValue Seen → ℕ → Live → ℕ → Req → StripeState Seen → WorldValue Seen
next_world w at l z q t = record w { requests = slice_set w.requests at (moved_to l q); stripes = slice_set w.stripes z t }

-- one operation
step_does : (w : WorldValue Seen) (at z : ℕ) (l : Live) (s t : StripeState Seen) (note : Note) (q : Req) → IsSound own w → IsElement w.requests at l → IsElement w.stripes z s → z < 8 →
    DoesOne w.shape z note (both (req l) (stripe_value own s)) (both q (stripe_value own t)) → StepsRequest own w l.number (Moved note) (next_world w at l z q t)
step_does w at z l s t note q sound e here below does =
    let idle = idle_at w at l sound.requests e in
    let lead : next_of (waiting l) (ByStripe does.reply) ≡ q =
    ap (λ (sh : Shape). followed sh.align (req l) (ByStripe does.reply)) idle.shape_is ∙ sym does.follows in
    let follows : Follows (waiting l) (ByStripe does.reply) (stripe_note (stripe_kind does.op) (note_place z does.op) does.reply) at (slice_set w.requests at (waiting l)) (Moved note)
    (slice_set w.requests at (moved_to l q)) = (
      one_note note z does.op does.reply does.is_told,
      subst (λ (r : Req). IsReady r.stage → ⊥) (sym lead) does.on,
      sym (set_twice w.requests at (waiting l) (moved_to l q))
          ∙ ap (λ (r : Req). slice_set (slice_set w.requests at (waiting l)) at (moved_to (waiting l) r)) (sym lead),
    ) in
    stripe_steps own w (next_world w at l z q t) at l z does.op does.reply s t (Moved note) sound e does.wants does.fits below
    (stripe_here own w z s here.inside (sym (here.is s))) refl does.answers_op
    (geometry_kept (stripe_value own s) (stripe_value own t) (later_disk (stripe_value own s) (stripe_value own t) does.op does.reply does.answers_op).0)
    refl refl refl refl refl follows

-- the core behind some operations
record Reached (event : Event) (w : WorldValue Seen) (at z : ℕ) (l : Live) (n : ℕ) (behind : Both) : Type 0 where
  pub state : StripeState Seen
  pub value : stripe_value own state ≡ behind.stripe
  pub steps : InOrder (λ i. GoesOn event) n w (next_world w at l z behind.request state)
  pub sound : IsSound own (next_world w at l z behind.request state)

still_here : (w : WorldValue Seen) (at z : ℕ) (l : Live) (s : StripeState Seen) → IsSound own w → IsElement w.requests at l → IsElement w.stripes z s →
    next_world w at l z (req l) s ≡ w
still_here w at z l s sound e here =
    let idle = idle_at w at l sound.requests e in
    let same : moved_to l (req l) ≡ l =
    ap (λ t. record l { request = record l.request { value = record l.request.value { waits = t } } }) (sym idle.waits) in
    let requests : slice_set w.requests at (moved_to l (req l)) ≡ w.requests =
    ap (λ (x : Live). slice_set w.requests at x) (same ∙ sym (e.is l)) ∙ set-get_or w.requests at l in
    let stripes : slice_set w.stripes z s ≡ w.stripes = ap (λ (x : StripeState Seen). slice_set w.stripes z x) (sym (here.is s)) ∙ set-get_or w.stripes z s in
    ap (λ (ls : List Live). record w { requests = ls; stripes = slice_set w.stripes z s }) requests
    ∙ ap (λ (ss : List (StripeState Seen)). record w { stripes = ss }) stripes

set_again : (w : WorldValue Seen) (at z : ℕ) (l : Live) (p q : Req) (s t : StripeState Seen) →
    next_world (next_world w at l z p s) at (moved_to l p) z q t ≡ next_world w at l z q t
set_again w at z l p q s t =
    ap (λ (ls : List Live). record w { requests = ls; stripes = slice_set (slice_set w.stripes z s) z t }) (set_twice w.requests at (moved_to l p) (moved_to l q))
    ∙ ap (λ (ss : List (StripeState Seen)). record w { requests = slice_set w.requests at (moved_to l q); stripes = ss }) (set_twice w.stripes z s t)

one_step : (w v : WorldValue Seen) (r now : ℕ) (note : Note) → StepsRequest own w r (Moved note) v → OneStep (Step (ARequest r) now) (Moved note) w v
one_step w v r now note is = (
  record {
    element = is.element;
    answers_event = is.answers_event now;
    outcome_is = is.outcome_is;
    does = is.does;
    as_planned = is.as_planned;
    inside = is.inside;
    shape_kept = is.shape_kept;
  },
  is.cause,
)

module _ (w : WorldValue Seen) (at z : ℕ) (l : Live) (s : StripeState Seen) (sound : IsSound own w) (e : IsElement w.requests at l) (here : IsElement w.stripes z s) (below : z < 8)
    (now : ℕ) where
  abbrev made : Event
  made = Step (ARequest l.number) now

  -- behind an operation of a core that was reached
  step_from : (n : ℕ) (mid : Both) (note : Note) (q : Req) (t : StripeState Seen) (reached : Reached made w at z l n mid) → DoesOne w.shape z note mid (both q (stripe_value own t)) →
      StepsRequest own (next_world w at l z mid.request reached.state) l.number (Moved note) (next_world w at l z q t)
  step_from n mid note q t reached does =
      let v : WorldValue Seen = next_world w at l z mid.request reached.state in
      subst (λ (x : WorldValue Seen). StepsRequest own v l.number (Moved note) x) (set_again w at z l mid.request q reached.state t)
      (step_does v at z (moved_to l mid.request) reached.state t note q reached.sound (written_at w.requests at (moved_to l mid.request) e.inside)
      (written_at w.stripes z reached.state here.inside) below
      (subst (λ (u : StripeValue). DoesOne w.shape z note (both mid.request u) (both q (stripe_value own t))) (sym reached.value) does))

  reach : (n : ℕ) (behind : Both) → InOrder (λ i. ReqGoesOn w.shape z) n (both (req l) (stripe_value own s)) behind → Reached made w at z l n behind
  reach zero behind steps =
      let same = still_here w at z l s sound e here in
      subst (λ (b : Both). Reached made w at z l zero b) (sym steps) (record {
        state = s;
        value = refl;
        steps = same;
        sound = subst (λ (x : WorldValue Seen). IsSound own x) (sym same) sound;
      })
  reach (suc n) behind steps =
      let front = reach n steps.0 steps.1.0 in
      let last = steps.1.1 in
      let does = last.does in
      let found = state_behind front.state does.op does.reply last.note behind.stripe
      (subst (λ (u : StripeValue). stripe_answers u does.op does.reply behind.stripe) (sym front.value) does.answers_op) does.is_told in
      let took = step_from n steps.0 last.note behind.request found.0 front
      (subst (λ (u : StripeValue). DoesOne w.shape z last.note steps.0 (both behind.request u)) (sym found.1) does) in
      record {
        state = found.0;
        value = found.1;
        steps = (
          next_world w at l z steps.0.request front.state,
          (
            front.steps,
            record { note = last.note; step = one_step _ _ l.number now last.note took; done = last.done },
          ),
        );
        sound = took.sound;
      }

  pub run_ends : (n : ℕ) (note : Note) (q : Req) (t : StripeState Seen) →
      EndsAt (λ i. ReqGoesOn w.shape z) (λ i. DoesOne w.shape z note) n (both (req l) (stripe_value own s)) (both q (stripe_value own t)) →
      EndsAt (λ i. GoesOn made) (λ i. OneStep made (Moved note)) n w (next_world w at l z q t) × IsSound own (next_world w at l z q t)
  run_ends n note q t ends =
      let front = reach n ends.0 ends.1.0 in
      let took = step_from n ends.0 note q t front ends.1.1 in (
        (next_world w at l z ends.0.request front.state, (front.steps, one_step _ _ l.number now note took)),
        took.sound,
      )

-- a run of whole blocks on a stripe of the core
pub run_repeats : {D : Type 0} (seen : D → Seen) (old new : WorldValue D) (at z n : ℕ) (l l' : Live) (s t : StripeState D) (note : Note) → IsSound seen old →
    IsElement old.requests at l → IsElement old.stripes z s → z < 8 →
    RanOut old.shape z n note (both (req l) (stripe_value seen s)) (both (req l') (stripe_value seen t)) →
    l' ≡ record l { request = record l.request { value = record l.request.value { request = req l' } } } →
    new ≡ record old { requests = slice_set old.requests at l'; stripes = slice_set old.stripes z t } → RepeatsRequest seen old l.number (Moved note) new
run_repeats {D} seen old new at z n l l' s t note sound e here below ran same is =
    let w = meant seen old in
    let w_sound = meant_sound seen old sound in
    let there : IsElement w.stripes z (stripe_meant seen s) = record {
      inside = omega (arith, here.inside, length-map old.stripes (stripe_meant seen));
      is = λ d. mapped_at old.stripes z s here d;
    } in
    let idle = idle_at old at l sound.requests e in
    let moved : moved_to l (req l') ≡ l' =
    ap (λ b. record l { request = record l.request { value = record l.request.value { request = req l'; waits = b } } }) (sym idle.waits) ∙ sym same in
    let whole : next_world w at l z (req l') (stripe_meant seen t) ≡ meant seen new =
    ap (λ (x : Live). record w { requests = slice_set w.requests at x; stripes = slice_set w.stripes z (stripe_meant seen t) }) moved
    ∙ ap (λ (ss : List (StripeState Seen)). record w { requests = slice_set w.requests at l'; stripes = ss }) (sym (map-set (stripe_meant seen) old.stripes z t))
    ∙ ap (meant seen) (sym is) in
    record {
      repeats = λ now. (
        ran.before,
        subst (λ (x : WorldValue Seen). EndsAt (λ i. GoesOn (Step (ARequest l.number) now)) (λ i. OneStep (Step (ARequest l.number) now) (Moved note)) ran.before w x) whole
            (run_ends w at z l (stripe_meant seen s) w_sound e there below now ran.before note (req l') (stripe_meant seen t) ran.ends).0,
      );
      comes = tt;
      sound = sound_meant seen new (subst (λ (x : WorldValue Seen). IsSound own x) whole
          (run_ends w at z l (stripe_meant seen s) w_sound e there below 0 ran.before note (req l') (stripe_meant seen t) ran.ends).1);
    }
  where
    mapped_at : (ss : List (StripeState D)) (i : ℕ) (x : StripeState D) → IsElement ss i x → (d : StripeState Seen) →
        slice_index_or (map (stripe_meant seen) ss) i d ≡ stripe_meant seen x
    mapped_at ss i x el d =
        get_or_default (map (stripe_meant seen) ss) i d (stripe_meant seen x) (omega (arith, el.inside, length-map ss (stripe_meant seen)))
        ∙ get_or-map (stripe_meant seen) ss i x ∙ ap (stripe_meant seen) (el.is x)

came : (out : Outcome) → IsTold out → IsStepOutcome out
came NotNext is = absurd is
came Memory is = absurd is
came _ is = tt

-- one step comes once
pub step_repeats : {D : Type 0} (seen : D → Seen) (old new : WorldValue D) (r : ℕ) (out : Outcome) → StepsRequest seen old r out new → RepeatsRequest seen old r out new
step_repeats seen old new r out is = record {
  repeats = λ now. (
    0,
    (
      meant seen old,
      (
        refl,
        (
          meant_steps seen old new (Step (ARequest r) now) out (record {
            element = is.element;
            answers_event = is.answers_event now;
            outcome_is = is.outcome_is;
            does = is.does;
            as_planned = is.as_planned;
            inside = is.inside;
            shape_kept = is.shape_kept;
          }),
          meant_cause seen old new out is.cause,
        ),
      ),
    ),
  );
  comes = came out (told old.shape.align is.element out is.outcome_is);
  sound = is.sound;
}

repeats_to : {D : Type 0} (seen : D → Seen) (old : WorldValue D) (event : Event) (out : Outcome) (new : WorldValue D) → IsStepOutcome out → Repeats seen old event out new →
    RepeatsTo seen old event out new
repeats_to seen old event NotNext new comes repeats = absurd comes
repeats_to seen old event Memory new comes repeats = absurd comes
repeats_to seen old event _ new comes repeats = repeats

-- a request that stands, and one that doesn't
pub request_runs : {D : Type 0} (seen : D → Seen) (old new : WorldValue D) (number now : ℕ) (l : Live) (out : Outcome) → request_at old.requests number ≢ None → l.number ≡ number →
    RepeatsRequest seen old l.number out new → RunsRequest seen old number now out new
request_runs seen old new number now l out stands is step = record {
  repeats = repeats_to seen old (Step (ARequest number) now) out new step.comes
      (subst (λ n. Repeats seen old (Step (ARequest n) now) out new) is (step.repeats now));
  next = (λ f. absurd (subst IsStepOutcome f step.comes), λ h. absurd (stands h));
  sound = step.sound;
}

pub none_runs : {D : Type 0} (seen : D → Seen) (w : WorldValue D) (number now : ℕ) → IsSound seen w → request_at w.requests number ≡ None → RunsRequest seen w number now NotNext w
none_runs seen w number now sound none = record { repeats = refl; next = (λ _. none, λ _. refl); sound = sound }
