-- Elements of the core's lists, as code that reads and writes them by index meets them.
use Rattle.std.proofs.Common.{◌≡◌, ℕ, ◌<◌, List, length, map, get_or, false, refl, sym, ◌∙◌, ap, subst, arith}
use Rattle.std.specs.List.{slice_set}
use Rattle.std.proofs.lemmas.List.{get_or-set_same, get_or_default, length-set, length-map}
use Rattle.std.proofs.Math.ListN.{get_or-map}
use Rattle.qs_outside.specs.Blocks.{Seen}
use Rattle.qs_part.specs.declared.event.Note.{Note}
use Rattle.qs_part.specs.declared.event.Outcome.{Outcome}
use Rattle.qs_request.specs.declared.todo.PartReply.{PartReply}
use Rattle.qs_request.specs.Table.{MayReply}
use Rattle.qs_stripe.specs.Table.{StripeState, value_of as stripe_value}
use Rattle.qs_world.specs.declared.live.Live.{Live}
use Rattle.qs_world.specs.Follows.{Awaits, Follows, IsElement, waiting}
use Rattle.qs_world.specs.Images.{stripe_at, no_stripe}
use Rattle.qs_world.specs.Sound.{IsIdle}
use Rattle.qs_world.specs.Values.{WorldValue, stripes_of}

-- what was written at an index is the element there
pub written_at : {X : Type 0} (xs : List X) (i : ℕ) (y : X) → i < length xs → IsElement (slice_set xs i y) i y
written_at xs i y inside = record { inside = omega (arith, inside, length-set xs i y); is = λ d. get_or-set_same xs i y d inside }

pub one_element : {X : Type 0} (xs : List X) (i : ℕ) (x y : X) → IsElement xs i x → IsElement xs i y → x ≡ y
one_element xs i x y a b = sym (a.is x) ∙ b.is x

pub awaits_reply : (xs : List Live) (i : ℕ) (x l new : Live) (reply : PartReply) → i < length xs → new ≡ waiting x →
    x.request.value.answered ≡ false → MayReply x.request.value.shape x.request.value.request reply → IsElement (slice_set xs i new) i l → Awaits l reply
awaits_reply xs i x l new reply inside is unanswered may e =
    let same : new ≡ l = one_element (slice_set xs i new) i new l (written_at xs i new inside) e in
    subst (λ (y : Live). Awaits y reply) same
    (subst (λ (y : Live). Awaits y reply) (sym is) (record { waits = refl; answered = unanswered; may = may }))

pub follow_tells : (xs : List Live) (i : ℕ) (x new : Live) (reply : PartReply) (note told : Note) (outcome : Outcome) (requests : List Live) → i < length xs →
    new ≡ waiting x → told ≡ note →
    ((l : Live) → IsElement (slice_set xs i new) i l → Follows l reply told i (slice_set xs i new) outcome requests) →
    Follows (waiting x) reply note i (slice_set xs i (waiting x)) outcome requests
follow_tells xs i x new reply note told outcome requests inside is same tells =
    subst (λ (n : Note). Follows (waiting x) reply n i (slice_set xs i (waiting x)) outcome requests) same
    (subst (λ (y : Live). Follows y reply told i (slice_set xs i y) outcome requests) is (tells new (written_at xs i new inside)))

-- the shape of a live request is the core's
pub shape_of : {D : Type 0} (w : WorldValue D) (i : ℕ) (x : Live) → IsElement w.requests i x → IsIdle w.shape w.next x → x.request.value.shape ≡ w.shape
shape_of w i x e idle = idle.shape_is

-- a stripe of the core, by index
pub stripe_here : {D : Type 0} (seen : D → Seen) (w : WorldValue D) (z : ℕ) (s : StripeState D) → z < length w.stripes → s ≡ get_or w.stripes z s →
    stripe_at (stripes_of seen w) z ≡ stripe_value seen s
stripe_here seen w z s inside is =
    get_or_default (map (stripe_value seen) w.stripes) z no_stripe (stripe_value seen s) (many z inside)
    ∙ get_or-map (stripe_value seen) w.stripes z s ∙ sym (ap (stripe_value seen) is)
  where
    many : (j : ℕ) → j < length w.stripes → j < length (map (stripe_value seen) w.stripes)
    many j h = omega (arith, h, length-map w.stripes (stripe_value seen))
