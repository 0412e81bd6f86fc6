-- Failures that are planned for a disk.
use Rattle.std.specs.Prelude.{◌≡◌, ℕ, Bool, true, false, List, Option, Some, None, IsTrue, Contains, if◌then◌else◌}
use Rattle.qs_outside.specs.declared.rigged_disk.Fail.{Fail}
use Rattle.qs_outside.specs.declared.rigged_disk.Fail.TheVariants.{Load, StoreOld, StoreNew, Sync}
use Rattle.qs_outside.specs.declared.rigged_disk.Plans.{Plans}
use Rattle.qs_outside.specs.Blocks.{Seen, Same, Stored}
use Rattle.qs_outside.specs.Streams.{next_count}

-- nothing is planned
abbrev pub no_plans : Plans
no_plans = record { load = false; store = None; sync = false }

-- the plans that a disk tells
abbrev pub plans_of : Option Plans → Plans
plans_of None = no_plans
plans_of (Some plans) = plans

-- one more plan, in place of the one of its kind; a failed store may leave the old content or the new
abbrev pub planned_too : Fail → Plans → Plans
planned_too Load plans = record plans { load = true }
planned_too StoreOld plans = record plans { store = Some false }
planned_too StoreNew plans = record plans { store = Some true }
planned_too Sync plans = record plans { sync = true }

-- no load is planned to fail, and no store, and no sync
abbrev pub MayLoad : Seen → Type 0
MayLoad disk = (plans_of disk.planned).load ≡ false

abbrev pub MayStore : Seen → Type 0
MayStore disk = (plans_of disk.planned).store ≡ None

abbrev pub MaySync : Seen → Type 0
MaySync disk = (plans_of disk.planned).sync ≡ false

-- a planned store left the old content, or wrote all the same
abbrev pub LeftAsPlanned : Bool → ℕ → List ℕ → Seen → Seen → Type 0
LeftAsPlanned false b bytes old new = Same old.now new.now
LeftAsPlanned true b bytes old new = Stored b bytes old.now new.now

-- A store that was planned to fail. On a disk that isn't full its block is as the plan says, and a crash may leave
-- the bytes all the same. On a full one nothing is stored.
pub record Refuses (writes : Bool) (b : ℕ) (bytes : List ℕ) (old new : Seen) : Type 0 where
  pub left : old.full ≡ Some false → LeftAsPlanned writes b bytes old new
  pub past : old.full ≡ Some false → Contains (new.past b) bytes
  pub full_now : old.full ≡ Some true → Same old.now new.now
  pub full_past : old.full ≡ Some true → Same old.past new.past

abbrev pub AsPlanned : ℕ → List ℕ → Seen → Seen → Type 0
AsPlanned b bytes old new = (writes : Bool) → IsTrue old.tells → (plans_of old.planned).store ≡ Some writes →
    Refuses writes b bytes old new

-- a failed call counts
abbrev pub counted_if : Bool → ℕ → ℕ
counted_if failed n = if failed then next_count n else n
