-- One level that leaks.
use Rattle.std.specs.Prelude.{◌≡◌, ◌≢◌, ℕ, ◌+◌, ◌-◌, ◌*◌, ◌<◌, ◌≤◌, ◌==◌, max, if◌then◌else◌, List}
use Rattle.std.specs.Int.{div_ceil}
use Rattle.qs_bucket.specs.declared.bucket.Ask.{Ask}
use Rattle.qs_bucket.specs.declared.bucket.Ask.TheVariants.{Go, Wait}
use Rattle.qs_bucket.specs.Admissions.{Admission, owed, UpTo}

-- a level: what leaks in a nanosecond, above what it holds back, the nano-units at the reading of the last admission,
-- that reading
pub record LevelValue : Type 0 where
  pub rate : ℕ
  pub bucket : ℕ
  pub level : ℕ
  pub last : ℕ

-- a level that holds nothing
abbrev pub empty : ℕ → ℕ → LevelValue
empty rate bucket = record { rate = rate; bucket = bucket; level = 0; last = 0 }

-- the reading that counts: one below that of the last admission counts as that one
abbrev pub effective : LevelValue → ℕ → ℕ
effective b now = max b.last now

-- what is left at reading t
abbrev pub level_at : LevelValue → ℕ → ℕ
level_at b t = b.level - b.rate * (t - b.last)

-- a request goes where what is owed is at most the bucket, and else waits until it is; rate 0 is no limit
abbrev pub Asked : ℕ → ℕ → ℕ → Ask → Type 0
Asked rate bucket debt Go = rate ≢ 0 → debt ≤ bucket
Asked rate bucket debt (Wait w) = (0 < rate) × (bucket < debt) × (w ≡ div_ceil (debt - bucket) rate)

-- how long a request has to wait; 0 lets it go
abbrev pub wait_at : LevelValue → ℕ → ℕ
wait_at b now = if b.rate == 0 then 0 else div_ceil (level_at b (effective b now) - b.bucket) b.rate

-- the level with one admission more; where there is no limit nothing is counted
abbrev pub level_added : LevelValue → ℕ → ℕ → LevelValue
level_added b now units =
    if b.rate == 0 then b else record {
      rate = b.rate;
      bucket = b.bucket;
      level = level_at b (effective b now) + units;
      last = effective b now;
    }

-- the level is what these admissions owe
pub record IsOwedBy (b : LevelValue) (xs : List Admission) : Type 0 where
  pub upto : UpTo b.last xs
  pub owes : (t : ℕ) → b.last ≤ t → level_at b t ≡ owed b.rate xs t
