-- A crash of the core.
use Rattle.std.specs.Prelude.{◌≡◌, ℕ, ◌<◌, List, [], length, map}
use Rattle.qs_outside.specs.declared.crash.CrashChoice.{CrashChoice}
use Rattle.qs_outside.specs.Blocks.{Seen}
use Rattle.qs_outside.specs.Crashes.{Crashes, chosen, left_of}
use Rattle.qs_bytes.specs.Geometry.{stripe_of}
use Rattle.qs_graph.specs.Table.{fresh as fresh_graph}
use Rattle.qs_image.specs.Image.{SameDisks}
use Rattle.qs_model.specs.Acts.{Crashed as CrashedStep}
use Rattle.qs_stripe.specs.Table.{Opened, StripeState, StripeValue, value_of as stripe_value}
use Rattle.qs_tracker.specs.Table.{fresh as fresh_tracker}
use Rattle.qs_world.specs.Events.{Does}
use Rattle.qs_world.specs.Images.{stripe_at}
use Rattle.qs_world.specs.Values.{WorldValue, disks_of, stripes_of}

-- a stripe's disk crashed, and nothing is held there
pub record StripeCrashes (choice : CrashChoice) (old new : StripeValue) : Type 0 where
  pub disk : Crashes choice old.disk new.disk
  pub opened : Opened new

-- each of the stripes crashed
pub record StripesCrash {D : Type 0} (seen : D → Seen) (choice : CrashChoice)
    (old new : List (StripeState D)) : Type 0 where
  pub count : length new ≡ length old
  pub each : (j : ℕ) → j < length old → StripeCrashes choice (stripe_at (map (stripe_value seen) old) j)
      (stripe_at (map (stripe_value seen) new) j)

-- what is left of each block: the chosen one of what a crash may leave
abbrev pub left_at : List StripeValue → CrashChoice → ℕ → List ℕ
left_at stripes choice b = left_of ((stripe_at stripes (stripe_of b)).disk.past b) (chosen choice b)

-- The power failed: each disk crashed, and all else is as the core is made, but the numbers of requests go on. It is
-- a step of the model, and the disks are the same ones.
pub record Crashed {D : Type 0} (seen : D → Seen) (old : WorldValue D) (choice : CrashChoice)
    (new : WorldValue D) : Type 0 where
  pub rest : new ≡ record old {
    requests = [];
    sessions = [];
    graph = fresh_graph old.graph.size old.graph.file old.graph.read_only;
    tracker = fresh_tracker 0;
    stripes = new.stripes;
  }
  pub stripes : StripesCrash seen choice old.stripes new.stripes
  pub does : Does seen old (CrashedStep (left_at (stripes_of seen old) choice)) new
  pub disks : SameDisks (disks_of seen old) (disks_of seen new)
