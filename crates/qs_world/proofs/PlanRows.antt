-- The failures that are planned, behind an operation of one stripe.
use Rattle.std.proofs.Common.{◌≡◌, ℕ, inl, inr, refl, sym, ◌∙◌, ap}
use Rattle.std.specs.Prelude.{Option, Some, None, false}
use Rattle.qs_outside.specs.declared.rigged_disk.Fail.{Fail}
use Rattle.qs_outside.specs.declared.rigged_disk.Plans.{Plans}
use Rattle.qs_outside.specs.Blocks.{load_spent, store_spent, sync_spent}
use Rattle.qs_outside.specs.Rigged.{plans_of, planned_too}
use Rattle.qs_model.specs.Puts.{put}
use Rattle.qs_bytes.specs.Geometry.{stripe_of}
use Rattle.qs_model.specs.Steps.{load_done, store_done, sync_done}
use Rattle.qs_model.proofs.Basics.{put_here, put_other, same_or}
use Rattle.qs_stripe.specs.Table.{StripeValue}
use Rattle.qs_world.specs.Images.{Changed, StandsPlans}

load_leaves : (planned : Option Plans) → plans_of (load_spent planned) ≡ record (plans_of planned) { load = false }
load_leaves None = refl
load_leaves (Some plans) = refl

store_leaves : (planned : Option Plans) → plans_of (store_spent planned) ≡ record (plans_of planned) { store = None }
store_leaves None = refl
store_leaves (Some plans) = refl

sync_leaves : (planned : Option Plans) → plans_of (sync_spent planned) ≡ record (plans_of planned) { sync = false }
sync_leaves None = refl
sync_leaves (Some plans) = refl

-- one stripe's plans changed
pub plans_put : (z : ℕ) (v : StripeValue) (s t : ℕ → StripeValue) (p : ℕ → Plans) (new : Plans) → Changed z v s t → StandsPlans s p →
    plans_of v.disk.planned ≡ new → StandsPlans t (put p z new)
plans_put z v s t p new change stands is j =
    elim (same_or j z) [
      | inl e ↦ ap (put p z new) e ∙ put_here p z new ∙ sym is ∙ sym (ap (λ (x : StripeValue). plans_of x.disk.planned) (ap t e ∙ change.this))
      | inr n ↦ put_other p z new j n ∙ stands j ∙ sym (ap (λ (x : StripeValue). plans_of x.disk.planned) (change.others j n))
    ]

-- none did
pub plans_same : (z : ℕ) (v : StripeValue) (s t : ℕ → StripeValue) (p : ℕ → Plans) → Changed z v s t → StandsPlans s p →
    v.disk.planned ≡ (s z).disk.planned → StandsPlans t p
plans_same z v s t p change stands is j =
    elim (same_or j z) [
      | inl e ↦ stands j ∙ ap (λ (i : ℕ). plans_of (s i).disk.planned) e ∙ sym (ap plans_of is)
          ∙ sym (ap (λ (x : StripeValue). plans_of x.disk.planned) (ap t e ∙ change.this))
      | inr n ↦ stands j ∙ sym (ap (λ (x : StripeValue). plans_of x.disk.planned) (change.others j n))
    ]

pub plans_load : (b : ℕ) (v : StripeValue) (s t : ℕ → StripeValue) (p : ℕ → Plans) → Changed (stripe_of b) v s t → StandsPlans s p →
    v.disk.planned ≡ load_spent (s (stripe_of b)).disk.planned → StandsPlans t (load_done p b)
plans_load b v s t p change stands is =
    plans_put (stripe_of b) v s t p (record (p (stripe_of b)) { load = false }) change stands
    (ap plans_of is ∙ load_leaves (s (stripe_of b)).disk.planned ∙ ap (λ (x : Plans). record x { load = false }) (sym (stands (stripe_of b))))

pub plans_store : (b : ℕ) (v : StripeValue) (s t : ℕ → StripeValue) (p : ℕ → Plans) → Changed (stripe_of b) v s t → StandsPlans s p →
    v.disk.planned ≡ store_spent (s (stripe_of b)).disk.planned → StandsPlans t (store_done p b)
plans_store b v s t p change stands is =
    plans_put (stripe_of b) v s t p (record (p (stripe_of b)) { store = None }) change stands
    (ap plans_of is ∙ store_leaves (s (stripe_of b)).disk.planned ∙ ap (λ (x : Plans). record x { store = None }) (sym (stands (stripe_of b))))

pub plans_sync : (z : ℕ) (v : StripeValue) (s t : ℕ → StripeValue) (p : ℕ → Plans) → Changed z v s t → StandsPlans s p →
    v.disk.planned ≡ sync_spent (s z).disk.planned → StandsPlans t (sync_done p z)
plans_sync z v s t p change stands is =
    plans_put z v s t p (record (p z) { sync = false }) change stands
    (ap plans_of is ∙ sync_leaves (s z).disk.planned ∙ ap (λ (x : Plans). record x { sync = false }) (sym (stands z)))

pub plans_planned : (z : ℕ) (v : StripeValue) (s t : ℕ → StripeValue) (p : ℕ → Plans) (fail : Fail) → Changed z v s t → StandsPlans s p →
    v.disk.planned ≡ Some (planned_too fail (plans_of (s z).disk.planned)) → StandsPlans t (put p z (planned_too fail (p z)))
plans_planned z v s t p fail change stands is =
    plans_put z v s t p (planned_too fail (p z)) change stands (ap plans_of is ∙ ap (planned_too fail) (sym (stands z)))
