-- The state of the model that the core in the program stands for.
use Rattle.std.specs.Prelude.{◌≡◌, ℕ}
use Rattle.qs_outside.specs.Blocks.{Seen}
use Rattle.qs_model.specs.Worlds.{World}
use Rattle.qs_world.specs.Values.{WorldValue, request_at, session_at, stripes_of}
use Rattle.qs_world.specs.Images.{StandsImage, StandsPlans, stripe_at, all_tell}

-- The model's state is this one: the same requests and sessions, the same graph and tracker, the same planned failures,
-- and, where all disks tell their content, the same blocks. Which sessions the graph's clients are the model alone
-- says.
pub record Stands {D : Type 0} (seen : D → Seen) (w : WorldValue D) (m : World) : Type 0 where
  pub tells : m.tells ≡ all_tell (stripes_of seen w)
  pub next : m.next ≡ w.next
  pub request : (r : ℕ) → m.req r ≡ request_at w.requests r
  pub session : (s : ℕ) → m.session s ≡ session_at w.sessions s
  pub graph : m.graph ≡ w.graph
  pub tracker : m.tracker ≡ w.tracker
  pub image : StandsImage (stripe_at (stripes_of seen w)) m.tells m.image
  pub plans : StandsPlans (stripe_at (stripes_of seen w)) m.plans
