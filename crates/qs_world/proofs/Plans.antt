-- A planned failure is a step of the model.
use Rattle.std.proofs.Common.{◌≡◌, ℕ, ◌<◌, length, get_or, refl, sym, ◌∙◌, ap, arith}
use Rattle.std.specs.Prelude.{Some}
use Rattle.std.specs.List.{slice_set}
use Rattle.std.proofs.lemmas.List.{length-set}
use Rattle.qs_outside.specs.Blocks.{Seen}
use Rattle.qs_outside.specs.declared.rigged_disk.Fail.{Fail}
use Rattle.qs_outside.specs.Rigged.{planned_too, plans_of}
use Rattle.qs_model.specs.Acts.{Planned as PlannedStep}
use Rattle.qs_model.specs.Steps.{happens}
use Rattle.qs_stripe.specs.Holds.{holds_of}
use Rattle.qs_stripe.specs.Table.{StripeState, StripeValue, value_of as stripe_value}
use Rattle.qs_world.specs.Images.{stripe_at, all_tell}
use Rattle.qs_world.specs.Events.{Does}
use Rattle.qs_world.specs.Openings.{Planned}
use Rattle.qs_world.specs.Sound.{IsSound}
use Rattle.qs_world.specs.Values.{WorldValue, stripes_of}
use Rattle.qs_world.proofs.Indexing.{stripe_here}
use Rattle.qs_world.proofs.PartSteps.{StripeChanged, changed_of, changed_values, changed_stripes, many_values, all_tell_set}
use Rattle.qs_world.proofs.StripeRows.{kept_stands}
use Rattle.qs_world.proofs.PlanRows.{plans_planned}

-- a disk with a failure planned
abbrev pub with_plan : Seen → Fail → Seen
with_plan d fail = record d { planned = Some (planned_too fail (plans_of d.planned)) }

pub planned_all : {D : Type 0} (seen : D → Seen) (old : WorldValue D) (z : ℕ) (s t : StripeState D) (fail : Fail) → IsSound seen old → z < 8 → s ≡ get_or old.stripes z s →
    t.places ≡ s.places → t.clean ≡ s.clean → seen t.disk ≡ with_plan (seen s.disk) fail →
    Planned seen old z fail (record old { stripes = slice_set old.stripes z t }) × IsSound seen (record old { stripes = slice_set old.stripes z t })
planned_all {D = D} seen old z s t fail sound below at places clean disk =
    let new : WorldValue D = record old { stripes = slice_set old.stripes z t } in
    let inside : z < length old.stripes = omega (arith, below, sound.count) in
    let here : stripe_at (stripes_of seen old) z ≡ stripe_value seen s = stripe_here seen old z s inside at in
    let c : StripeChanged seen old new z s t = record { inside = inside; was = here; is = refl } in
    let change = changed_of seen old new z s t c in
    let tells : all_tell (stripes_of seen new) ≡ all_tell (stripes_of seen old) =
    ap all_tell (changed_values seen old new z s t c)
    ∙ all_tell_set (stripes_of seen old) z (stripe_value seen t) (many_values seen old z inside)
    (ap (λ (d : Seen). d.tells) disk ∙ sym (ap (λ (v : StripeValue). v.disk.tells) here)) in
    let holds : (stripe_value seen t).hold ≡ (stripe_at (stripes_of seen old) z).hold = ap holds_of places ∙ sym (ap (λ (v : StripeValue). v.hold) here) in
    let does : Does seen old (PlannedStep z fail) new = λ m st. (
      below,
      record {
        tells = st.tells ∙ sym tells;
        next = st.next;
        request = st.request;
        session = st.session;
        graph = st.graph;
        tracker = st.tracker;
        image = kept_stands z (stripe_value seen t) (stripe_at (stripes_of seen old)) (stripe_at (stripes_of seen new)) m.tells m.image change st.image
            (λ tell b. ap (λ (d : Seen). d.now b) disk ∙ sym (ap (λ (v : StripeValue). v.disk.now b) here))
            (λ tell b. ap (λ (d : Seen). d.past b) disk ∙ sym (ap (λ (v : StripeValue). v.disk.past b) here)) holds
            (clean ∙ sym (ap (λ (v : StripeValue). v.clean) here));
        plans = plans_planned z (stripe_value seen t) (stripe_at (stripes_of seen old)) (stripe_at (stripes_of seen new)) m.plans fail change st.plans
            (ap (λ (d : Seen). d.planned) disk ∙ ap (λ (v : StripeValue). Some (planned_too fail (plans_of v.disk.planned))) (sym here));
      },
    ) in (
      record {
        rest = refl;
        planned = ap (λ (v : StripeValue). v.disk) change.this ∙ disk ∙ ap (λ (v : StripeValue). with_plan v.disk fail) (sym here);
        others = change.others;
        does = does;
      },
      record {
        shape = sound.shape;
        count = length-set old.stripes z t ∙ sound.count;
        stripes = λ j h. changed_stripes seen old new z s t c refl
            (ap (λ (d : Seen). record { stripe = d.stripe; align = d.align; size = d.size }) disk) j (sound.stripes j h);
        size = sound.size;
        places = sound.places;
        seats = sound.seats;
        requests = sound.requests;
        numbers = sound.numbers;
        sessions = sound.sessions;
        model = (happens old.shape.align sound.model.0 (PlannedStep z fail), (does sound.model.0 sound.model.1).1);
      },
    )
