-- A row of the request table is a step of the core.
use Rattle.std.proofs.Common.{◌≡◌, ◌≢◌, ℕ, ◌⊎◌, inl, inr, Bool, sym, ◌∙◌, ap, subst}
use Rattle.std.specs.Prelude.{Some}
use Rattle.qs_outside.specs.Blocks.{Seen}
use Rattle.qs_model.specs.Puts.{put}
use Rattle.qs_model.specs.Requests.{Req}
use Rattle.qs_model.specs.Worlds.{Image, World}
use Rattle.qs_model.specs.Acts.{Act, Did}
use Rattle.qs_model.specs.Guards.{MayDo}
use Rattle.qs_outside.specs.declared.rigged_disk.Plans.{Plans}
use Rattle.qs_model.specs.Steps.{moved, tracked, imaged, plans_spent}
use Rattle.qs_model.proofs.Basics.{put_here, put_other, same_or}
use Rattle.qs_tracker.specs.Table.{TrackerValue}
use Rattle.qs_world.specs.Events.{Does}
use Rattle.qs_world.specs.Images.{StandsImage, StandsPlans, stripe_at, all_tell}
use Rattle.qs_world.specs.Stands.{Stands}
use Rattle.qs_world.specs.Values.{WorldValue, request_at, stripes_of}

-- one value changed in two functions that agree
pub put_same : {X : Type 0} (f g : ℕ → X) (k : ℕ) (v : X) → ((j : ℕ) → f j ≡ g j) → (j : ℕ) → put f k v j ≡ put g k v j
put_same f g k v same j = go (same_or j k)
  where
    go : (j ≡ k) ⊎ (j ≢ k) → put f k v j ≡ put g k v j
    go (inl e) = ap (put f k v) e ∙ put_here f k v ∙ sym (put_here g k v) ∙ ap (put g k v) (sym e)
    go (inr n) = put_other f k v j n ∙ same j ∙ sym (put_other g k v j n)

-- what a request's operation leaves alone
pub record Leaves {D : Type 0} (seen : D → Seen) (old new : WorldValue D) : Type 0 where
  pub shape : new.shape ≡ old.shape
  pub next : new.next ≡ old.next
  pub sessions : new.sessions ≡ old.sessions
  pub graph : new.graph ≡ old.graph
  pub tells : all_tell (stripes_of seen new) ≡ all_tell (stripes_of seen old)

pub did_does : {D : Type 0} (seen : D → Seen) (old new : WorldValue D) (r : ℕ) (q : Req) (act : Act q.stage) → request_at old.requests r ≡ Some q → Leaves seen old new →
    ((m : World) → Stands seen old m → MayDo old.shape.align m q.client q.pads act) →
    tracked old.shape.align old.tracker q.client act ≡ new.tracker →
    ((i : Image) → StandsImage (stripe_at (stripes_of seen old)) (all_tell (stripes_of seen old)) i →
    StandsImage (stripe_at (stripes_of seen new)) (all_tell (stripes_of seen old)) (imaged old.shape.align i q.client act)) →
    ((p : ℕ → Plans) → StandsPlans (stripe_at (stripes_of seen old)) p → StandsPlans (stripe_at (stripes_of seen new)) (plans_spent old.shape.align p q.client act)) →
    ((j : ℕ) → request_at new.requests j ≡ put (request_at old.requests) r (moved old.shape.align q.client q.dropped q.pads act) j) →
    Does seen old (Did r q act) new
did_does seen old new r q act is leaves may tracks images plans requests m stands = (
  (stands.request r ∙ is, may m stands),
  record {
    tells = stands.tells ∙ sym leaves.tells;
    next = stands.next ∙ sym leaves.next;
    request = λ j. put_same m.req (request_at old.requests) r (moved old.shape.align q.client q.dropped q.pads act) stands.request j ∙ sym (requests j);
    session = λ s. rw leaves.sessions (stands.session s);
    graph = stands.graph ∙ sym leaves.graph;
    tracker = ap (λ (t : TrackerValue). tracked old.shape.align t q.client act) stands.tracker ∙ tracks;
    image = subst (λ (t : Bool). StandsImage (stripe_at (stripes_of seen new)) t (imaged old.shape.align m.image q.client act)) (sym stands.tells)
        (images m.image (subst (λ (t : Bool). StandsImage (stripe_at (stripes_of seen old)) t m.image) stands.tells stands.image));
    plans = plans m.plans stands.plans;
  },
)
