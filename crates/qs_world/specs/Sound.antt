-- What the core keeps.
use Rattle.std.specs.Prelude.{◌≡◌, ℕ, ◌<◌, false, length}
use Rattle.std.specs.List.{AllByRecursion}
use Rattle.qs_outside.specs.Blocks.{Seen}
use Rattle.qs_model.specs.Worlds.{World}
use Rattle.qs_request_state.specs.declared.shape.Shape.{Shape}
use Rattle.qs_request_state.specs.Shapes.{IsShape}
use Rattle.qs_stripe.specs.Table.{geometry}
use Rattle.qs_world.specs.declared.live.Live.{Live}
use Rattle.qs_world.specs.Keyed.{AreDistinct}
use Rattle.qs_world.specs.Images.{stripe_at}
use Rattle.qs_world.specs.Values.{WorldValue, stripes_of}
use Rattle.qs_world.specs.Stands.{Stands}

-- a request may be asked for its next operation
pub record IsIdle (shape : Shape) (next : ℕ) (l : Live) : Type 0 where
  pub below : l.number < next
  pub shape_is : l.request.value.shape ≡ shape
  pub waits : l.request.value.waits ≡ false
  pub answered : l.request.value.answered ≡ false

-- stripe j is of this number, and its disk has the image's shape
abbrev pub IsStripe : {D : Type 0} → (D → Seen) → WorldValue D → ℕ → Type 0
IsStripe seen w j = geometry (stripe_at (stripes_of seen w) j)
    ≡ record { stripe = j; align = w.shape.align; size = w.shape.size }

-- eight stripes of one shape, a graph over it, requests and sessions by their numbers, and a state of
-- the model that the core stands for
pub record IsSound {D : Type 0} (seen : D → Seen) (w : WorldValue D) : Type 0 where
  pub shape : IsShape w.shape
  pub count : length w.stripes ≡ 8
  pub stripes : (j : ℕ) → j < 8 → IsStripe seen w j
  pub size : w.graph.size ≡ w.shape.size
  pub places : length w.graph.places ≡ 64
  pub seats : length w.tracker.seats ≡ 256
  pub requests : AllByRecursion (IsIdle w.shape w.next) w.requests
  pub numbers : AreDistinct (λ l. l.number) w.requests
  pub sessions : AreDistinct (λ m. m.session) w.sessions
  pub model : (m : World) × Stands seen w m
