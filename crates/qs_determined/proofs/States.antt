-- States that are alike are one state, but for what a crash may leave of its blocks.
use Rattle.std.proofs.Common.{◌≡◌, ℕ, List}
use Rattle.qs_model.specs.Worlds.{World}
use Rattle.qs_determined.specs.Determined.{Alike}

-- the same state, but for what a crash may leave
abbrev pub with_past : World → (ℕ → List (List ℕ)) → World
with_past w past = record w { image = record w.image { past = past } }

-- states that are alike are one, but for that
pub alike_is : (w v : World) → Alike w v → v ≡ with_past w v.image.past
alike_is w v alike = λ i. record {
  tells = alike.tells i;
  next = alike.next i;
  req = λ r. alike.req r i;
  session = λ s. alike.session s i;
  graph = alike.graph i;
  clients = λ e. alike.clients e i;
  tracker = alike.tracker i;
  image = record { now = λ b. alike.now b i; past = v.image.past; holder = λ b. alike.holder b i; clean = λ s. alike.clean s i };
  plans = λ j. alike.plans j i;
}
