-- A leaky bucket: two levels that count the same admissions, after QEMU's util/throttle.c.
use Rattle.std.specs.Prelude.{◌≡◌, ◌≢◌, ℕ, ◌<◌, ◌≤◌, ◌^◌, ◌==◌, ◌⊎◌, if◌then◌else◌, Option, Some, None, List}
use Rattle.qs_bucket.specs.declared.bucket.Ask.{Ask}
use Rattle.qs_bucket.specs.declared.bucket.Ask.TheVariants.{Go, Wait}
use Rattle.qs_bucket.specs.declared.bucket.Burst.{Burst}
use Rattle.qs_bucket.specs.Admissions.{Admission}
use Rattle.qs_bucket.specs.Level.{LevelValue, empty, effective, level_at, wait_at, level_added, Asked, IsOwedBy}

-- the level of the long run and that of a burst; where there is no burst the second has rate 0, which is no limit
pub record BucketValue : Type 0 where
  pub first : LevelValue
  pub second : LevelValue

-- a burst that a bucket of this rate can have
abbrev pub BurstFits : ℕ → Option Burst → Type 0
BurstFits rate None = Unit {0}
BurstFits rate (Some b) = (0 < rate) × (0 < b.rate) × (b.rate ≤ 10 ^ 15) × (b.bucket ≤ 10 ^ 27)

abbrev pub burst_level : Option Burst → LevelValue
burst_level None = empty 0 0
burst_level (Some b) = empty b.rate b.bucket

-- a bucket that has admitted nothing
abbrev pub opened_bucket : ℕ → ℕ → Option Burst → BucketValue
opened_bucket rate bucket burst = record { first = empty rate bucket; second = burst_level burst }

-- a request goes where what is owed of each rate is at most its bucket, and else waits for the first level where that
-- exceeds, or for the second
abbrev pub AskedOf : BucketValue → ℕ → ℕ → Ask → Type 0
AskedOf b debt burst_debt Go =
    Asked b.first.rate b.first.bucket debt Go × Asked b.second.rate b.second.bucket burst_debt Go
AskedOf b debt burst_debt (Wait w) =
    Asked b.first.rate b.first.bucket debt (Wait w)
    ⊎ (Asked b.first.rate b.first.bucket debt Go × Asked b.second.rate b.second.bucket burst_debt (Wait w))

-- the answer to a request at a reading
abbrev pub AsksBucket : BucketValue → ℕ → Ask → Type 0
AsksBucket b now answer =
    AskedOf b (level_at b.first (effective b.first now)) (level_at b.second (effective b.second now)) answer

-- the first of two waits that isn't 0
abbrev pub first_wait : ℕ → ℕ → ℕ
first_wait m n = if m == 0 then n else m

-- how long a request has to wait; 0 lets it go
abbrev pub wait_of : BucketValue → ℕ → ℕ
wait_of b now = first_wait (wait_at b.first now) (wait_at b.second now)

-- the bucket with one admission more
abbrev pub filled : BucketValue → ℕ → ℕ → BucketValue
filled b now units = record { first = level_added b.first now units; second = level_added b.second now units }

-- each level that is a limit is what these admissions owe at its rate, and both count from the same reading
pub record Holds (b : BucketValue) (xs : List Admission) : Type 0 where
  pub first : b.first.rate ≢ 0 → IsOwedBy b.first xs
  pub second : b.second.rate ≢ 0 → IsOwedBy b.second xs
  pub together : b.second.rate ≢ 0 → (b.first.rate ≢ 0) × (b.second.last ≡ b.first.last)
