-- Calls one behind the other, as a run of the model.
use Rattle.std.proofs.Common.{◌≡◌, ℕ, Bool, List, [], ◌∷◌, ◌++◌, refl, sym, subst, ap, ◌∙◌}
use Rattle.std.specs.Prelude.{Option, Some}
use Rattle.qs_outside.specs.Blocks.{Seen}
use Rattle.qs_part.specs.declared.event.Event.{Event}
use Rattle.qs_part.specs.declared.event.Outcome.{Outcome}
use Rattle.qs_part.specs.declared.event.Outcome.TheVariants.{Attached, NoExport, Crowded, Left, Made, Moved, Answered, NotNext, Memory}
use Rattle.qs_part.specs.declared.graph.GraphOp.{GraphOp}
use Rattle.qs_model.specs.Acts.{Element, Exported as ExportedStep, Planned as PlannedStep, Crashed as CrashedStep}
use Rattle.qs_model.specs.Events.{outcome_of}
use Rattle.qs_model.specs.Guards.{CanCome}
use Rattle.qs_model.specs.Steps.{world_after, happens, Runs}
use Rattle.qs_model.specs.Worlds.{World}
use Rattle.qs_world.specs.Events.{Does, HasCause, IsAsPlanned, Steps, StepsTo}
use Rattle.qs_world.specs.Stands.{Stands}
use Rattle.qs_world.specs.Values.{WorldValue}
use Rattle.qs_request_state.specs.declared.shape.Shape.{Shape}
use Rattle.qs_calls.specs.Calls.{AreCalls, Call, Happened, Rigged, PowerFailed, ExportMade, MakesExport, Makes, MakesStep, Plays, Walks, full_at}

pub runs_more : (A : ℕ) (w : World) (es fs : List Element) → Runs A w es → Runs A (world_after A w es) fs → Runs A w (es ++ fs)
runs_more A w [] fs run more = more
runs_more A w (e ∷ es) fs run more = (run.0, runs_more A (happens A w e) es fs run.1 more)

pub after_more : (A : ℕ) (w : World) (es fs : List Element) → world_after A (world_after A w es) fs ≡ world_after A w (es ++ fs)
after_more A w [] fs = refl
after_more A w (e ∷ es) fs = after_more A (happens A w e) es fs

-- one call
pub plays_one : {D : Type 0} (seen : D → Seen) (old : WorldValue D) (c : Call) (new : WorldValue D) → Makes seen old c new → Plays seen old (c ∷ []) new
plays_one seen old c new makes = (new, (makes, refl))

pub plays_more : {D : Type 0} (seen : D → Seen) (old : WorldValue D) (cs : List Call) (mid : WorldValue D) (ds : List Call) (new : WorldValue D) →
    Plays seen old cs mid → Plays seen mid ds new → Plays seen old (cs ++ ds) new
plays_more {D} seen old [] mid ds new first then = subst (λ (w : WorldValue D). Plays seen w ds new) first then
plays_more seen old (c ∷ cs) mid ds new first then = (first.0, (first.1.0, plays_more seen first.0 cs mid ds new first.1.1 then))

-- an event that isn't refused is a step of the model
pub plays_of : {D : Type 0} (seen : D → Seen) (old : WorldValue D) (event : Event) (outcome : Outcome) (new : WorldValue D) →
    (outcome ≡ NotNext → ⊥) → (outcome ≡ Memory → ⊥) → StepsTo seen old event outcome new → HasCause seen old outcome new →
    Steps seen old event outcome new × Plays seen old (Happened event outcome ∷ []) new
plays_of seen old event NotNext new next room steps cause = absurd (next refl)
plays_of seen old event Memory new next room steps cause = absurd (room refl)
plays_of seen old event (Attached info) new next room steps cause = (steps, plays_one seen old (Happened event (Attached info)) new (steps, cause))
plays_of seen old event NoExport new next room steps cause = (steps, plays_one seen old (Happened event NoExport) new (steps, cause))
plays_of seen old event Crowded new next room steps cause = (steps, plays_one seen old (Happened event Crowded) new (steps, cause))
plays_of seen old event Left new next room steps cause = (steps, plays_one seen old (Happened event Left) new (steps, cause))
plays_of seen old event (Made r) new next room steps cause = (steps, plays_one seen old (Happened event (Made r)) new (steps, cause))
plays_of seen old event (Moved note) new next room steps cause = (steps, plays_one seen old (Happened event (Moved note)) new (steps, cause))
plays_of seen old event (Answered verdict note) new next room steps cause =
    (steps, plays_one seen old (Happened event (Answered verdict note)) new (steps, cause))

-- the step of the model by which a call makes what it does
made_by : {D : Type 0} (seen : D → Seen) (w : WorldValue D) (c : Call) (v : WorldValue D) → Makes seen w c v → (e : Element) × MakesStep seen w c e v
made_by seen w (Happened event outcome) v makes = (makes.0.element, (makes.0, refl, makes.1))
made_by seen w (Rigged stripe fail) v makes = (PlannedStep stripe fail, (makes, refl))
made_by seen w (PowerFailed choice left) v makes = (CrashedStep left, (makes.0, makes.1, refl))
made_by seen w (ExportMade op place) v makes = (ExportedStep op place, (makes, refl))

pub step_does : {D : Type 0} (seen : D → Seen) (w : WorldValue D) (c : Call) (e : Element) (v : WorldValue D) → MakesStep seen w c e v → Does seen w e v
step_does {D} seen w (Happened event outcome) e v made = subst (λ (x : Element). Does seen w x v) (sym made.1) made.0.does
step_does {D} seen w (Rigged stripe fail) e v made = subst (λ (x : Element). Does seen w x v) (sym made.1) made.0.does
step_does {D} seen w (PowerFailed choice left) e v made =
    subst (λ (x : Element). Does seen w x v) (sym (made.2 ∙ ap CrashedStep made.1)) made.0.does
step_does {D} seen w (ExportMade op place) e v made =
    subst (λ (x : Element). Does seen w x v)
    (sym (made.1 ∙ ap (ExportedStep op) made.0.place_is ∙ ap (λ (o : GraphOp). ExportedStep o made.0.exports.place) made.0.op_is)) made.0.exports.does

-- a planned store leaves what its plan says
pub step_planned : {D : Type 0} (seen : D → Seen) (w : WorldValue D) (c : Call) (e : Element) (v : WorldValue D) → MakesStep seen w c e v → IsAsPlanned seen w e
step_planned {D} seen w (Happened event outcome) e v made = subst (λ (x : Element). IsAsPlanned seen w x) (sym made.1) made.0.as_planned
step_planned {D} seen w (Rigged stripe fail) e v made = subst (λ (x : Element). IsAsPlanned seen w x) (sym made.1) tt
step_planned {D} seen w (PowerFailed choice left) e v made = subst (λ (x : Element). IsAsPlanned seen w x) (sym made.2) tt
step_planned {D} seen w (ExportMade op place) e v made = subst (λ (x : Element). IsAsPlanned seen w x) (sym made.1) tt

pub step_shape : {D : Type 0} (seen : D → Seen) (w : WorldValue D) (c : Call) (e : Element) (v : WorldValue D) → MakesStep seen w c e v → v.shape ≡ w.shape
step_shape seen w (Happened event outcome) e v made = made.0.shape_kept
step_shape {D} seen w (Rigged stripe fail) e v made = ap (λ (x : WorldValue D). x.shape) made.0.rest
step_shape {D} seen w (PowerFailed choice left) e v made = ap (λ (x : WorldValue D). x.shape) made.0.rest
step_shape {D} seen w (ExportMade op place) e v made = ap (λ (x : WorldValue D). x.shape) made.0.exports.same

-- the state of the model that the core stands for behind a call
pub step_stands : {D : Type 0} (seen : D → Seen) (A : ℕ) (w : WorldValue D) (c : Call) (e : Element) (v : WorldValue D) (m : World) → w.shape.align ≡ A → Stands seen w m →
    MakesStep seen w c e v → CanCome A m e × Stands seen v (happens A m e) × (v.shape.align ≡ A)
step_stands {D} seen A w c e v m align stands made =
    let does : CanCome A m e × Stands seen v (happens A m e) =
    subst (λ (a : ℕ). CanCome a m e × Stands seen v (happens a m e)) align (step_does seen w c e v made m stands) in
    (does.0, does.1, ap (λ (s : Shape). s.align) (step_shape seen w c e v made) ∙ align)

step_one : {D : Type 0} (seen : D → Seen) (A : ℕ) (w : WorldValue D) (c : Call) (e : Element) (v : WorldValue D) (cs : List Call) (es : List Element) → w.shape.align ≡ A →
    MakesStep seen w c e v → AreCalls A cs es → AreCalls A (c ∷ cs) (e ∷ es)
step_one {D} seen A w (Happened event outcome) e v cs es align made are =
    subst (λ (x : Element). AreCalls A (Happened event outcome ∷ cs) (x ∷ es)) (sym made.1)
    (made.0.answers_event, subst (λ (a : ℕ). outcome_of a made.0.element ≡ Some outcome) align made.0.outcome_is, are)
step_one seen A w (Rigged stripe fail) e v cs es align made are = (made.1, are)
step_one seen A w (PowerFailed choice left) e v cs es align made are = (made.2, are)
step_one seen A w (ExportMade op place) e v cs es align made are = (made.1, are)

-- a run of the model whose steps are these calls
pub record Leads {D : Type 0} (seen : D → Seen) (A : ℕ) (w : WorldValue D) (m : World) (calls : List Call) (v : WorldValue D) : Type 0 where
  pub elements : List Element
  pub fulls : List (ℕ → Option Bool)
  pub are : AreCalls A calls elements
  pub walked : Walks seen w calls elements fulls v
  pub run : Runs A m elements
  pub stands : Stands seen v (world_after A m elements)

pub leads : {D : Type 0} (seen : D → Seen) (A : ℕ) (w : WorldValue D) (calls : List Call) (v : WorldValue D) (m : World) → w.shape.align ≡ A → Stands seen w m →
    Plays seen w calls v → Leads seen A w m calls v
leads {D} seen A w [] v m align stands plays =
    record { elements = []; fulls = []; are = tt; walked = plays; run = tt; stands = subst (λ (x : WorldValue D). Stands seen x m) (sym plays) stands }
leads {D} seen A w (c ∷ calls) v m align stands plays =
    let (e, made) = made_by seen w c plays.0 plays.1.0 in
    let (may, stands_too, align_too) = step_stands seen A w c e plays.0 m align stands made in
    let on = leads seen A plays.0 calls v (happens A m e) align_too stands_too plays.1.1 in
    record {
      elements = e ∷ on.elements;
      fulls = full_at seen w ∷ on.fulls;
      are = step_one seen A w c e plays.0 calls on.elements align made on.are;
      walked = (refl, plays.0, (made, on.walked));
      run = (may, on.run);
      stands = on.stands;
    }
