-- The core by what its disks mean is the core, for all that contracts say.
use Rattle.std.proofs.Common.{◌≡◌, ℕ, List, [], ◌∷◌, length, map, refl, sym, ap, subst, ◌∙◌}
use Rattle.std.proofs.lemmas.List.{length-map}
use Rattle.qs_outside.specs.Blocks.{Seen}
use Rattle.qs_image.specs.Image.{SameDisks}
use Rattle.qs_part.specs.declared.event.Event.{Event}
use Rattle.qs_part.specs.declared.event.Note.{Note}
use Rattle.qs_part.specs.declared.event.Outcome.{Outcome}
use Rattle.qs_part.specs.declared.event.Outcome.TheVariants.{NotNext, Memory, Attached, NoExport, Crowded, Left, Made, Moved, Answered}
use Rattle.qs_model.specs.Acts.{Element, Did, Asked}
use Rattle.qs_model.specs.Worlds.{World}
use Rattle.qs_stripe.specs.Table.{StripeState, StripeValue, geometry, value_of as stripe_value}
use Rattle.qs_world.specs.Events.{Does, HasCause, IsAsPlanned, IsCaused, Steps}
use Rattle.qs_world.specs.Images.{stripe_at}
use Rattle.qs_world.specs.Running.{meant, stripe_meant}
use Rattle.qs_world.specs.Sound.{IsSound}
use Rattle.qs_world.specs.Stands.{Stands}
use Rattle.qs_world.specs.Values.{WorldValue, disks_of, stripes_of}

abbrev pub own : Seen → Seen
own d = d

values_same : {D : Type 0} (seen : D → Seen) (ss : List (StripeState D)) → map (stripe_value own) (map (stripe_meant seen) ss) ≡ map (stripe_value seen) ss
values_same seen [] = refl
values_same seen (s ∷ ss) = ap (λ (vs : List StripeValue). stripe_value seen s ∷ vs) (values_same seen ss)

disks_same : {D : Type 0} (seen : D → Seen) (ss : List (StripeState D)) →
    map own (map (λ (s : StripeState Seen). s.disk) (map (stripe_meant seen) ss)) ≡ map seen (map (λ (s : StripeState D). s.disk) ss)
disks_same seen [] = refl
disks_same seen (s ∷ ss) = ap (λ (ds : List Seen). seen s.disk ∷ ds) (disks_same seen ss)

pub meant_stripes : {D : Type 0} (seen : D → Seen) (w : WorldValue D) → stripes_of own (meant seen w) ≡ stripes_of seen w
meant_stripes seen w = values_same seen w.stripes

pub meant_disks : {D : Type 0} (seen : D → Seen) (w : WorldValue D) → disks_of own (meant seen w) ≡ disks_of seen w
meant_disks seen w = disks_same seen w.stripes

pub meant_stands : {D : Type 0} (seen : D → Seen) (w : WorldValue D) (m : World) → Stands seen w m → Stands own (meant seen w) m
meant_stands seen w m stands = record {
  tells = rw (meant_stripes seen w) stands.tells;
  next = stands.next;
  request = stands.request;
  session = stands.session;
  graph = stands.graph;
  tracker = stands.tracker;
  image = rw (meant_stripes seen w) stands.image;
  plans = rw (meant_stripes seen w) stands.plans;
}

pub stands_meant : {D : Type 0} (seen : D → Seen) (w : WorldValue D) (m : World) → Stands own (meant seen w) m → Stands seen w m
stands_meant seen w m stands =
    let same = meant_stripes seen w in
    record {
      tells = rw same at stands.tells;
      next = stands.next;
      request = stands.request;
      session = stands.session;
      graph = stands.graph;
      tracker = stands.tracker;
      image = rw same at stands.image;
      plans = rw same at stands.plans;
    }

pub meant_sound : {D : Type 0} (seen : D → Seen) (w : WorldValue D) → IsSound seen w → IsSound own (meant seen w)
meant_sound seen w sound = record {
  shape = sound.shape;
  count = length-map w.stripes (stripe_meant seen) ∙ sound.count;
  stripes = λ j below. ap (λ (vs : List StripeValue). geometry (stripe_at vs j)) (meant_stripes seen w) ∙ sound.stripes j below;
  size = sound.size;
  places = sound.places;
  seats = sound.seats;
  requests = sound.requests;
  numbers = sound.numbers;
  sessions = sound.sessions;
  model = (sound.model.0, meant_stands seen w sound.model.0 sound.model.1);
}

pub sound_meant : {D : Type 0} (seen : D → Seen) (w : WorldValue D) → IsSound own (meant seen w) → IsSound seen w
sound_meant seen w sound = record {
  shape = sound.shape;
  count = sym (length-map w.stripes (stripe_meant seen)) ∙ sound.count;
  stripes = λ j below. sym (ap (λ (vs : List StripeValue). geometry (stripe_at vs j)) (meant_stripes seen w)) ∙ sound.stripes j below;
  size = sound.size;
  places = sound.places;
  seats = sound.seats;
  requests = sound.requests;
  numbers = sound.numbers;
  sessions = sound.sessions;
  model = (sound.model.0, stands_meant seen w sound.model.0 sound.model.1);
}

meant_does : {D : Type 0} (seen : D → Seen) (old new : WorldValue D) (e : Element) → Does seen old e new → Does own (meant seen old) e (meant seen new)
meant_does seen old new e does m stands =
    let d = does m (stands_meant seen old m stands) in
    (d.0, meant_stands seen new _ d.1)

meant_planned : {D : Type 0} (seen : D → Seen) (w : WorldValue D) (e : Element) → IsAsPlanned seen w e → IsAsPlanned own (meant seen w) e
meant_planned seen w (Did r q act) is = rw (meant_stripes seen w) is
meant_planned seen w _ is = tt

pub meant_steps : {D : Type 0} (seen : D → Seen) (old new : WorldValue D) (event : Event) (outcome : Outcome) → Steps seen old event outcome new →
    Steps own (meant seen old) event outcome (meant seen new)
meant_steps seen old new event outcome steps = record {
  element = steps.element;
  answers_event = steps.answers_event;
  outcome_is = steps.outcome_is;
  does = meant_does seen old new steps.element steps.does;
  as_planned = meant_planned seen old steps.element steps.as_planned;
  inside = steps.inside;
  shape_kept = steps.shape_kept;
}

meant_caused : {D : Type 0} (seen : D → Seen) (old new : WorldValue D) (outcome : Outcome) → IsCaused seen old outcome new →
    IsCaused own (meant seen old) outcome (meant seen new)
meant_caused seen old new (Moved note) caused = rw (meant_stripes seen old, meant_stripes seen new) caused
meant_caused seen old new _ caused = tt

pub meant_cause : {D : Type 0} (seen : D → Seen) (old new : WorldValue D) (outcome : Outcome) → HasCause seen old outcome new →
    HasCause own (meant seen old) outcome (meant seen new)
meant_cause {D} seen old new outcome cause = record {
  disks = rw (meant_disks seen old, meant_disks seen new) cause.disks;
  fault = meant_caused seen old new outcome cause.fault;
  rest = λ e. ap (λ (ss : List (StripeState D)). map (stripe_meant seen) ss) (cause.rest e);
}
