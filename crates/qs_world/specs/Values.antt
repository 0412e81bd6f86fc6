-- The core as contracts see it.
use Rattle.std.specs.Prelude.{ℕ, List, map, Option, Some, None, if◌then◌else◌}
use Rattle.qs_outside.specs.Blocks.{Seen}
use Rattle.qs_model.specs.Requests.{Req}
use Rattle.qs_model.specs.Worlds.{Session, Away, Live as LiveAt, Leaving}
use Rattle.qs_graph.specs.Table.{GraphValue}
use Rattle.qs_request_state.specs.declared.shape.Shape.{Shape}
use Rattle.qs_stripe.specs.Table.{StripeState, StripeValue, value_of}
use Rattle.qs_tracker.specs.Table.{TrackerValue}
use Rattle.qs_world.specs.Keyed.{find_by}
use Rattle.qs_world.specs.declared.live.Live.{Live}
use Rattle.qs_world.specs.declared.live.Member.{Member}

-- the image's shape, the number of the next request, those that haven't been answered, the sessions,
-- and the parts
pub record WorldValue (D : Type 0) : Type 0 where
  pub shape : Shape
  pub next : ℕ
  pub requests : List Live
  pub sessions : List Member
  pub graph : GraphValue
  pub tracker : TrackerValue
  pub stripes : List (StripeState D)

-- the request of a number
abbrev pub request_at : List Live → ℕ → Option Req
request_at ls r = find_by (λ l. l.number) (λ l. l.request.value.request) ls r

abbrev pub member_of : Member → Session
member_of m = if m.left then Leaving m.e else LiveAt m.e

abbrev pub session_or : Option Session → Session
session_or None = Away
session_or (Some session) = session

-- the session of a number
abbrev pub session_at : List Member → ℕ → Session
session_at ms s = session_or (find_by (λ m. m.session) member_of ms s)

-- the eight stripes, by what their disks mean
abbrev pub stripes_of : {D : Type 0} → (D → Seen) → WorldValue D → List StripeValue
stripes_of seen w = map (value_of seen) w.stripes

-- what its eight disks mean
abbrev pub disks_of : {D : Type 0} → (D → Seen) → WorldValue D → List Seen
disks_of seen w = map seen (map (λ (s : StripeState _). s.disk) w.stripes)
