-- A calm replay: that a failed store left what its plan says comes from the calls.
use Rattle.std.proofs.Common.{◌≡◌, ℕ, List, [], ◌∷◌, refl, sym, subst, ap, ◌∙◌}
use Rattle.std.specs.Prelude.{Bool, Option, None, Some}
use Rattle.qs_outside.specs.Blocks.{Seen}
use Rattle.qs_outside.specs.declared.rigged_disk.Plans.{Plans}
use Rattle.qs_bytes.specs.Geometry.{stripe_of}
use Rattle.qs_determined.specs.Determined.{IsRowPlanned, IsUndisturbed}
use Rattle.qs_part.specs.declared.event.Actor.TheVariants.{Session as ASession, Request as ARequest}
use Rattle.qs_part.specs.declared.event.Event.{Event}
use Rattle.qs_part.specs.declared.event.Event.TheVariants as event
use Rattle.qs_model.specs.Acts.{Act, StoreFails, Element, Did, Exported}
use Rattle.qs_model.specs.Events.{IsEvent}
use Rattle.qs_model.specs.Requests.{Client, Stage}
use Rattle.qs_model.specs.Steps.{happens}
use Rattle.qs_model.specs.Worlds.{World}
use Rattle.qs_stripe.specs.Table.{StripeValue}
use Rattle.qs_world.specs.Events.{IsAsPlanned, IsRowAsPlanned}
use Rattle.qs_world.specs.Images.{StandsPlans, stripe_at}
use Rattle.qs_world.specs.Stands.{Stands}
use Rattle.qs_world.specs.Values.{WorldValue, stripes_of}
use Rattle.qs_calls.specs.Calls.{Call, Happened, Rigged, PowerFailed, ExportMade, MakesStep, Walks, anew, full_at}
use Rattle.qs_calls.proofs.Plays.{step_planned, step_stands}
use Rattle.qs_same_replay.specs.Same.{AreCalm, IsByPlan, IsGiven, IsRowByPlan}

-- an export that is made is the one that stood at the opening
abbrev pub IsAnew : World → Element → Type 0
IsAnew m (Exported op place) = op ≡ anew m.graph
IsAnew m _ = Unit {0}

-- in each step no disk failed but by a plan, of which a failed store left what it says
abbrev pub AreUndisturbed : ℕ → World → List Element → Type 0
AreUndisturbed A m [] = Unit {0}
AreUndisturbed A m (e ∷ es) = IsUndisturbed A m e × IsGiven e × IsAnew m e × AreUndisturbed A (happens A m e) es

event_anew : (m : World) (made : Event) (e : Element) → IsEvent made e → IsAnew m e
event_anew m (event.Attach n name) (Exported op place) is = absurd is
event_anew m (event.Leave n) (Exported op place) is = absurd is
event_anew m (event.Ask n ask body) (Exported op place) is = absurd is
event_anew m (event.Step (ARequest n) now) (Exported op place) is = absurd is
event_anew m (event.Step (ASession n) now) (Exported op place) is = absurd is
event_anew m made e is = tt

step_anew : {D : Type 0} (seen : D → Seen) (w : WorldValue D) (m : World) (c : Call) (e : Element) (v : WorldValue D) → Stands seen w m → MakesStep seen w c e v → IsAnew m e
step_anew seen w m (Happened made outcome) e v stands by = event_anew m made e (subst (IsEvent made) (sym by.1) by.0.answers_event)
step_anew seen w m (Rigged stripe fail) e v stands by = subst (IsAnew m) (sym by.1) tt
step_anew seen w m (PowerFailed choice left) e v stands by = subst (IsAnew m) (sym by.2) tt
step_anew seen w m (ExportMade op place) e v stands by = subst (IsAnew m) (sym by.1) (by.0.op_is ∙ ap anew (sym stands.graph))

row_undisturbed : (A : ℕ) (m : World) (stripe : ℕ → StripeValue) (c : Client) {stage : Stage} (act : Act stage) → StandsPlans stripe m.plans →
    IsRowAsPlanned stripe act → IsRowByPlan A m (λ j. (stripe j).disk.full) c act → IsRowPlanned A m c act
row_undisturbed A m stripe c (StoreFails {b = b} bytes took past) plans planned by = go (m.plans (stripe_of b)).store refl
  where
    go : (o : Option Bool) → (m.plans (stripe_of b)).store ≡ o → (m.plans (stripe_of b)).store ≡ Some took
    go None is = absurd (by.0 is)
    go (Some writes) is =
        is ∙ ap (λ (x : Bool). Some x) (sym (planned writes by.1 (sym (ap (λ (p : Plans). p.store) (plans (stripe_of b))) ∙ is)))
row_undisturbed A m stripe c act plans planned by = by

step_undisturbed : {D : Type 0} (seen : D → Seen) (A : ℕ) (w : WorldValue D) (m : World) (full : ℕ → Option Bool) (e : Element) → full ≡ full_at seen w → Stands seen w m →
    IsAsPlanned seen w e → IsByPlan A m full e → IsUndisturbed A m e
step_undisturbed {D} seen A w m full (Did r q act) told stands planned by =
    row_undisturbed A m (stripe_at (stripes_of seen w)) q.client act stands.plans planned
    (subst (λ (f : ℕ → Option Bool). IsRowByPlan A m f q.client act) told by)
step_undisturbed seen A w m full e told stands planned by = tt

pub undisturbed : {D : Type 0} (seen : D → Seen) (A : ℕ) (w v : WorldValue D) (m : World) (calls : List Call) (es : List Element) (fulls : List (ℕ → Option Bool)) →
    w.shape.align ≡ A → Stands seen w m → Walks seen w calls es fulls v → AreCalm A m es fulls → AreUndisturbed A m es
undisturbed seen A w v m [] [] [] align stands walks calm = tt
undisturbed seen A w v m (c ∷ cs) (e ∷ es) (full ∷ fulls) align stands walks calm =
    let (told, mid, (made, on)) = walks in
    let (may, stands_too, align_too) = step_stands seen A w c e mid m align stands made in (
      step_undisturbed seen A w m full e told stands (step_planned seen w c e mid made) calm.0,
      calm.1,
      step_anew seen w m c e mid stands made,
      undisturbed seen A mid v (happens A m e) cs es fulls align_too stands_too on calm.2,
    )
undisturbed seen A w v m calls es fulls align stands walks calm = absurd walks
