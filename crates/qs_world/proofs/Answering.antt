-- What a part's reply makes of the core: a step of the model, and a sound core.
use Rattle.std.proofs.Common.{◌≡◌, ℕ, zero, suc, ◌<◌, ◌⊎◌, inl, inr, List, [], ◌∷◌, length, get_or, Bool, refl, sym, ◌∙◌, ap, subst}
use Rattle.std.specs.Prelude.{Option, Some, None}
use Rattle.std.specs.List.{slice_set, remove, AllByRecursion}
use Rattle.qs_bytes.specs.declared.ask.Verdict.{Verdict}
use Rattle.qs_outside.specs.Blocks.{Seen}
use Rattle.qs_part.specs.declared.event.Note.{Note}
use Rattle.qs_part.specs.declared.event.Outcome.{Outcome}
use Rattle.qs_part.specs.declared.event.Outcome.TheVariants.{Moved, Answered}
use Rattle.qs_model.specs.Puts.{put}
use Rattle.qs_model.specs.Requests.{Client, Pads, Req, Stage, Ready, verdict}
use Rattle.qs_model.specs.Worlds.{Image, World}
use Rattle.qs_model.specs.Acts.{Act, Answers, Waits, Enters, Routes, Shuts, Lists, Starts, Loads, LoadFails, Holds, HoldFails, Stores, StoreFails, Syncs, Cleans, SyncFails, Frees, Ends, Did}
use Rattle.qs_model.specs.Guards.{MayDo}
use Rattle.qs_outside.specs.declared.rigged_disk.Plans.{Plans}
use Rattle.qs_model.specs.Steps.{moved, tracked, imaged, plans_spent, happens}
use Rattle.qs_model.specs.Events.{note_of, row_outcome, moved_out}
use Rattle.qs_request.specs.declared.todo.PartReply.{PartReply}
use Rattle.qs_request.specs.Rows.{IsRow}
use Rattle.qs_request.specs.Table.{followed}
use Rattle.qs_request.specs.Value.{IsReady}
use Rattle.qs_request.proofs.Rows.{row_leads}
use Rattle.qs_world.specs.declared.live.Live.{Live}
use Rattle.qs_world.specs.Cores.{StepsRequest}
use Rattle.qs_world.specs.Events.{Does, HasCause, IsInside, IsRowAsPlanned}
use Rattle.qs_world.specs.Follows.{Follows, IsElement, moved_to, next_of, waiting}
use Rattle.qs_world.specs.Images.{StandsImage, StandsPlans, stripe_at, all_tell}
use Rattle.qs_world.specs.Keyed.{AreDistinct}
use Rattle.qs_world.specs.Sound.{IsSound, IsIdle, IsStripe}
use Rattle.qs_world.specs.Stands.{Stands}
use Rattle.qs_world.specs.Values.{WorldValue, request_at, stripes_of}
use Rattle.qs_world.proofs.Doing.{Leaves, did_does}
use Rattle.qs_world.proofs.Keyed.{find_set, find_gone, find_at, distinct_set, distinct_gone, all_set, all_gone, all_at, remove_set}

-- where a row leads: the request goes on, or it is answered
abbrev pub GoesOn : ℕ → Client → Bool → Pads → {stage : Stage} → Act stage → Note → Req → Type 0
GoesOn A c d p act note q = (moved A c d p act ≡ Some q) × (IsReady q.stage → ⊥) × (row_outcome A c d act ≡ Some (Moved note))

abbrev pub IsAnswered : ℕ → Client → Bool → Pads → {stage : Stage} → Act stage → Note → Req → Type 0
IsAnswered A c d p act note q =
    (v : Verdict) × ((moved A c d p act ≡ None) × (q.stage ≡ Ready v) × (row_outcome A c d act ≡ Some (Answered v (Some note))))

pub finishes : (A : ℕ) (c : Client) (d : Bool) (p : Pads) {stage : Stage} (act : Act stage) (reply : PartReply) (note : Note) → (IsReady stage → ⊥) →
    IsRow reply act → note_of A c act ≡ Some note →
    GoesOn A c d p act note (followed A (record { client = c; dropped = d; pads = p; stage = stage }) reply)
    ⊎ IsAnswered A c d p act note (followed A (record { client = c; dropped = d; pads = p; stage = stage }) reply)
finishes A c d p (Answers {v = v}) reply note going is noted = absurd (going tt)
finishes A c d p (Waits {stage = stage} wait) reply note going is noted =
    let led = row_leads A c d p (Waits {stage = stage} wait) reply is in
    inl (ap Some (sym led), subst (λ (q : Req). IsReady q.stage → ⊥) (sym led) going, ap moved_out noted)
finishes A c d p (Enters k) reply note going is noted =
    let led = row_leads A c d p (Enters k) reply is in inl (ap Some (sym led), subst (λ (q : Req). IsReady q.stage → ⊥) (sym led) (λ h. h), ap moved_out noted)
finishes A c d p (Routes {k = k} route) reply note going is noted =
    let led = row_leads A c d p (Routes {k = k} route) reply is in inl (ap Some (sym led), subst (λ (q : Req). IsReady q.stage → ⊥) (sym led) (λ h. h), ap moved_out noted)
finishes A c d p (Shuts {k = k}) reply note going is noted =
    let led = row_leads A c d p (Shuts {k = k}) reply is in inl (ap Some (sym led), subst (λ (q : Req). IsReady q.stage → ⊥) (sym led) (λ h. h), ap moved_out noted)
finishes A c d p (Lists {k = k} n) reply note going is noted =
    let led = row_leads A c d p (Lists {k = k} n) reply is in inl (ap Some (sym led), subst (λ (q : Req). IsReady q.stage → ⊥) (sym led) (λ h. h), ap moved_out noted)
finishes A c d p (Starts {k = k}) reply note going is noted =
    let led = row_leads A c d p (Starts {k = k}) reply is in inl (ap Some (sym led), subst (λ (q : Req). IsReady q.stage → ⊥) (sym led) (λ h. h), ap moved_out noted)
finishes A c d p (Loads {k = k} {b = b} {got = got} bytes) reply note going is noted =
    let led = row_leads A c d p (Loads {k = k} {b = b} {got = got} bytes) reply is in
    inl (ap Some (sym led), subst (λ (q : Req). IsReady q.stage → ⊥) (sym led) (λ h. h), ap moved_out noted)
finishes A c d p (LoadFails {k = k} {b = b} {got = got}) reply note going is noted =
    let led = row_leads A c d p (LoadFails {k = k} {b = b} {got = got}) reply is in
    inl (ap Some (sym led), subst (λ (q : Req). IsReady q.stage → ⊥) (sym led) (λ h. h), ap moved_out noted)
finishes A c d p (Holds {k = k} {side = side} bytes) reply note going is noted =
    let led = row_leads A c d p (Holds {k = k} {side = side} bytes) reply is in
    inl (ap Some (sym led), subst (λ (q : Req). IsReady q.stage → ⊥) (sym led) (λ h. h), ap moved_out noted)
finishes A c d p (HoldFails {k = k} {side = side}) reply note going is noted =
    let led = row_leads A c d p (HoldFails {k = k} {side = side}) reply is in
    inl (ap Some (sym led), subst (λ (q : Req). IsReady q.stage → ⊥) (sym led) (λ h. h), ap moved_out noted)
finishes A c d p (Stores {k = k} {b = b} bytes past) reply note going is noted =
    let led = row_leads A c d p (Stores {k = k} {b = b} bytes past) reply is in
    inl (ap Some (sym led), subst (λ (q : Req). IsReady q.stage → ⊥) (sym led) (λ h. h), ap moved_out noted)
finishes A c d p (StoreFails {k = k} {b = b} bytes took past) reply note going is noted =
    let led = row_leads A c d p (StoreFails {k = k} {b = b} bytes took past) reply is in
    inl (ap Some (sym led), subst (λ (q : Req). IsReady q.stage → ⊥) (sym led) (λ h. h), ap moved_out noted)
finishes A c d p (Syncs {k = k} {s = s}) reply note going is noted =
    let led = row_leads A c d p (Syncs {k = k} {s = s}) reply is in
    inl (ap Some (sym led), subst (λ (q : Req). IsReady q.stage → ⊥) (sym led) (λ h. h), ap moved_out noted)
finishes A c d p (Cleans {k = k} {s = s}) reply note going is noted =
    let led = row_leads A c d p (Cleans {k = k} {s = s}) reply is in
    inl (ap Some (sym led), subst (λ (q : Req). IsReady q.stage → ⊥) (sym led) (λ h. h), ap moved_out noted)
finishes A c d p (SyncFails {k = k} {s = s}) reply note going is noted =
    let led = row_leads A c d p (SyncFails {k = k} {s = s}) reply is in
    inl (ap Some (sym led), subst (λ (q : Req). IsReady q.stage → ⊥) (sym led) (λ h. h), ap moved_out noted)
finishes A c d p (Frees {k = k} {side = side}) reply note going is noted =
    let led = row_leads A c d p (Frees {k = k} {side = side}) reply is in
    inl (ap Some (sym led), subst (λ (q : Req). IsReady q.stage → ⊥) (sym led) (λ h. h), ap moved_out noted)
finishes A c d p (Ends {k = k} {v = v}) reply note going is noted =
    inr (verdict d v, (refl, row_leads A c d p (Ends {k = k} {v = v}) reply is, ap (λ (n : Option Note). Some (Answered (verdict d v) n)) noted))

-- the same place written twice
pub set_twice : {X : Type 0} (xs : List X) (i : ℕ) (y z : X) → slice_set (slice_set xs i y) i z ≡ slice_set xs i z
set_twice [] zero y z = refl
set_twice [] (suc i) y z = refl
set_twice (x ∷ xs) zero y z = refl
set_twice (x ∷ xs) (suc i) y z = ap (λ (ys : List _). x ∷ ys) (set_twice xs i y z)

-- the request, as it stands in the model
abbrev pub req : Live → Req
req l = l.request.value.request

-- an idle request that moved on is idle
moved_idle : {D : Type 0} (w : WorldValue D) (l : Live) (q : Req) → IsIdle w.shape w.next l → IsIdle w.shape w.next (moved_to (waiting l) q)
moved_idle w l q idle = record { below = idle.below; shape_is = idle.shape_is; waits = refl; answered = idle.answered }

-- what is known of a core whose part was asked, beside its requests
pub record Others {D : Type 0} (seen : D → Seen) (old new : WorldValue D) : Type 0 where
  pub leaves : Leaves seen old new
  pub count : length new.stripes ≡ 8
  pub stripes : (j : ℕ) → j < 8 → IsStripe seen new j
  pub seats : length new.tracker.seats ≡ 256

-- the list of requests after a reply: what the model has of each, that each is idle, and the outcome
pub record Listed {D : Type 0} (w : WorldValue D) (l : Live) (act : Act (req l).stage) (outcome : Outcome) (requests : List Live) : Type 0 where
  pub model : (j : ℕ) → request_at requests j ≡ put (request_at w.requests) l.number (moved w.shape.align (req l).client (req l).dropped (req l).pads act) j
  pub idle : AllByRecursion (IsIdle w.shape w.next) requests
  pub apart : AreDistinct (λ x. x.number) requests
  pub outcome_is : row_outcome w.shape.align (req l).client (req l).dropped act ≡ Some outcome

pub idle_at : {D : Type 0} (w : WorldValue D) (at : ℕ) (l : Live) → AllByRecursion (IsIdle w.shape w.next) w.requests → IsElement w.requests at l → IsIdle w.shape w.next l
idle_at w at l all e = subst (IsIdle w.shape w.next) (e.is l) (all_at (IsIdle w.shape w.next) w.requests at l all e.inside)

-- it goes on
went_on : {D : Type 0} (w : WorldValue D) (at : ℕ) (l : Live) (act : Act (req l).stage) (note n : Note) (q : Req) (requests : List Live) →
    AllByRecursion (IsIdle w.shape w.next) w.requests → AreDistinct (λ x. x.number) w.requests → IsElement w.requests at l →
    GoesOn w.shape.align (req l).client (req l).dropped (req l).pads act note q → n ≡ note → requests ≡ slice_set w.requests at (moved_to (waiting l) q) →
    Listed w l act (Moved n) requests
went_on w at l act note n q requests idle apart e goes same is =
    let number : (get_or w.requests at l).number ≡ l.number = ap (λ (x : Live). x.number) (e.is l) in
    let this : IsIdle w.shape w.next l = idle_at w at l idle e in
    record {
      model = λ j. ap (λ (xs : List Live). request_at xs j) is
          ∙ find_set (λ x. x.number) (λ x. x.request.value.request) w.requests at (moved_to (waiting l) q) l apart e.inside (sym number) j
          ∙ ap (λ (k : ℕ). put (request_at w.requests) k (Some q) j) number
          ∙ ap (λ (o : Option Req). put (request_at w.requests) l.number o j) (sym goes.0);
      idle = subst (AllByRecursion (IsIdle w.shape w.next)) (sym is)
          (all_set (IsIdle w.shape w.next) w.requests at (moved_to (waiting l) q) idle (moved_idle w l q this));
      apart = subst (AreDistinct (λ x. x.number)) (sym is) (distinct_set (λ x. x.number) w.requests at (moved_to (waiting l) q) l e.inside (sym number) apart);
      outcome_is = goes.2 ∙ ap (λ (i : Note). Some (Moved i)) (sym same);
    }

-- it is answered, and taken out
pub was_answered : {D : Type 0} (w : WorldValue D) (at : ℕ) (l : Live) (act : Act (req l).stage) (v : Verdict) (n : Option Note) (requests : List Live) →
    AllByRecursion (IsIdle w.shape w.next) w.requests → AreDistinct (λ x. x.number) w.requests → IsElement w.requests at l →
    moved w.shape.align (req l).client (req l).dropped (req l).pads act ≡ None →
    row_outcome w.shape.align (req l).client (req l).dropped act ≡ Some (Answered v n) → requests ≡ remove w.requests at →
    Listed w l act (Answered v n) requests
was_answered w at l act v n requests idle apart e gone told is =
    let number : (get_or w.requests at l).number ≡ l.number = ap (λ (x : Live). x.number) (e.is l) in
    record {
      model = λ j. ap (λ (xs : List Live). request_at xs j) is
          ∙ find_gone (λ x. x.number) (λ x. x.request.value.request) w.requests at l apart e.inside j
          ∙ ap (λ (k : ℕ). put (request_at w.requests) k None j) number
          ∙ ap (λ (o : Option Req). put (request_at w.requests) l.number o j) (sym gone);
      idle = subst (AllByRecursion (IsIdle w.shape w.next)) (sym is) (all_gone (IsIdle w.shape w.next) w.requests at e.inside idle);
      apart = subst (AreDistinct (λ x. x.number)) (sym is) (distinct_gone (λ x. x.number) w.requests at e.inside apart);
      outcome_is = told;
    }

-- what `follow` left
listed : {D : Type 0} (w : WorldValue D) (at : ℕ) (l : Live) (act : Act (req l).stage) (reply : PartReply) (note : Note) (outcome : Outcome) (requests : List Live) →
    AllByRecursion (IsIdle w.shape w.next) w.requests → AreDistinct (λ x. x.number) w.requests → IsElement w.requests at l →
    GoesOn w.shape.align (req l).client (req l).dropped (req l).pads act note (next_of (waiting l) reply)
    ⊎ IsAnswered w.shape.align (req l).client (req l).dropped (req l).pads act note (next_of (waiting l) reply) →
    Follows (waiting l) reply note at (slice_set w.requests at (waiting l)) outcome requests → Listed w l act outcome requests
listed w at l act reply note (Moved n) requests idle apart e (inl goes) follows =
    went_on w at l act note n (next_of (waiting l) reply) requests idle apart e goes follows.0
    (follows.2 ∙ set_twice w.requests at (waiting l) (moved_to (waiting l) (next_of (waiting l) reply)))
listed w at l act reply note (Moved n) requests idle apart e (inr done) follows =
    absurd (follows.1 (subst IsReady (sym done.1.1) tt))
listed w at l act reply note (Answered v n) requests idle apart e (inl goes) follows = absurd (goes.1 (subst IsReady (sym follows.1) tt))
listed w at l act reply note (Answered v n) requests idle apart e (inr done) follows =
    was_answered w at l act v n requests idle apart e done.1.0
    (done.1.2 ∙ ap (λ (x : Verdict). Some (Answered x (Some note))) (one_verdict done.0 v (sym done.1.1 ∙ follows.1)) ∙ ap (λ (o : Option Note). Some (Answered v o)) (sym follows.0))
    (follows.2 ∙ remove_set w.requests at (waiting l))
  where
    one_verdict : (x y : Verdict) → Ready x ≡ Ready y → x ≡ y
    one_verdict x y is = cc
listed w at l act reply note _ requests idle apart e goes follows = absurd follows

-- the request of an element
pub found : {D : Type 0} (w : WorldValue D) (at : ℕ) (l : Live) → AreDistinct (λ x. x.number) w.requests → IsElement w.requests at l → request_at w.requests l.number ≡ Some (req l)
found w at l apart e =
    subst (λ (x : Live). request_at w.requests x.number ≡ Some (req x)) (e.is l)
    (find_at (λ x. x.number) (λ x. x.request.value.request) w.requests at l apart e.inside)

-- a core that is sound after a step
pub stays_sound : {D : Type 0} (seen : D → Seen) (old new : WorldValue D) (r : ℕ) (q : Req) (act : Act q.stage) → IsSound seen old → Others seen old new →
    AllByRecursion (IsIdle old.shape old.next) new.requests → AreDistinct (λ x. x.number) new.requests → Does seen old (Did r q act) new → IsSound seen new
stays_sound seen old new r q act sound others idle apart does = record {
  shape = rw others.leaves.shape sound.shape;
  count = others.count;
  stripes = others.stripes;
  size = rw (others.leaves.graph, others.leaves.shape) sound.size;
  places = rw others.leaves.graph sound.places;
  seats = others.seats;
  requests = rw (others.leaves.shape, others.leaves.next) idle;
  numbers = apart;
  sessions = rw others.leaves.sessions sound.sessions;
  model = (happens old.shape.align sound.model.0 (Did r q act), (does sound.model.0 sound.model.1).1);
}

pub did_answers : {D : Type 0} (seen : D → Seen) (old new : WorldValue D) (at : ℕ) (l : Live) (act : Act (req l).stage) (reply : PartReply) (note : Note) (outcome : Outcome) →
    IsSound seen old → IsElement old.requests at l → (IsReady (req l).stage → ⊥) → IsRow reply act → note_of old.shape.align (req l).client act ≡ Some note → Others seen old new →
    ((m : World) → Stands seen old m → MayDo old.shape.align m (req l).client (req l).pads act) →
    tracked old.shape.align old.tracker (req l).client act ≡ new.tracker →
    ((i : Image) → StandsImage (stripe_at (stripes_of seen old)) (all_tell (stripes_of seen old)) i →
    StandsImage (stripe_at (stripes_of seen new)) (all_tell (stripes_of seen old)) (imaged old.shape.align i (req l).client act)) →
    ((p : ℕ → Plans) → StandsPlans (stripe_at (stripes_of seen old)) p → StandsPlans (stripe_at (stripes_of seen new)) (plans_spent old.shape.align p (req l).client act)) →
    IsRowAsPlanned (stripe_at (stripes_of seen old)) act → IsInside old.shape (Did l.number (req l) act) →
    Follows (waiting l) reply note at (slice_set old.requests at (waiting l)) outcome new.requests → HasCause seen old outcome new →
    StepsRequest seen old l.number outcome new
did_answers seen old new at l act reply note outcome sound e going is noted others may tracks images plans as_planned inside follows cause =
    let align : l.request.value.shape.align ≡ old.shape.align = ap (λ (s : _). s.align) (idle_at old at l sound.requests e).shape_is in
    let goes = finishes old.shape.align (req l).client (req l).dropped (req l).pads act reply note going is noted in
    let list : Listed old l act outcome new.requests =
    listed old at l act reply note outcome new.requests sound.requests sound.numbers e
    (subst (λ (a : ℕ). GoesOn old.shape.align (req l).client (req l).dropped (req l).pads act note (followed a (req l) reply)
    ⊎ IsAnswered old.shape.align (req l).client (req l).dropped (req l).pads act note (followed a (req l) reply)) (sym align) goes) follows in
    let does : Does seen old (Did l.number (req l) act) new =
    did_does seen old new l.number (req l) act (found old at l sound.numbers e) others.leaves may tracks images plans list.model in
    record {
      element = Did l.number (req l) act;
      answers_event = λ now. refl;
      outcome_is = list.outcome_is;
      does = does;
      as_planned = as_planned;
      inside = inside;
      shape_kept = others.leaves.shape;
      cause = cause;
      sound = stays_sound seen old new l.number (req l) act sound others list.idle list.apart does;
    }
