-- The limits of a group and what was admitted under them, after QEMU's util/throttle.c.
use Rattle.std.specs.Prelude.{ℕ, ◌*◌, ◌^◌, ◌<◌, ◌≤◌, ◌==◌, nat_lt, max, Bool, not, ◌&&◌, if◌then◌else◌, Option, Some, None}
use Rattle.std.specs.Int.{div_ceil}
use Rattle.qs_part.specs.declared.group.Dir.{Dir}
use Rattle.qs_part.specs.declared.group.Dir.TheVariants.{Read, Write}
use Rattle.qs_part.specs.declared.limits.Limit.{Limit}
use Rattle.qs_part.specs.declared.limits.Limits.{Limits}
use Rattle.qs_bucket.specs.declared.bucket.Burst.{Burst}
use Rattle.qs_bucket.specs.Bucket.{BucketValue, opened_bucket, wait_of, filled}
use Rattle.qs_group.specs.declared.budget.Sides.{Sides}
use Rattle.qs_group.specs.declared.budget.Budget.{Budget}

-- a limit that a group can have
pub record IsGood (x : Limit) : Type 0 where
  pub avg : x.avg ≤ 10 ^ 15
  pub max_rate : x.max ≤ 10 ^ 15
  pub burst : x.max * x.burst_length ≤ 10 ^ 15
  pub has_max : 1 < x.burst_length → 0 < x.max
  pub has_avg : 0 < x.max → 0 < x.avg

-- a limit has two pairs of a rate and a bucket, the first for the long run and the second for bursts
pub data Which : Type 0 where
  First : Which
  Second : Which

-- there is a first pair where the limit has a rate, and a second where its bursts may also last longer than a second
abbrev pub has_pair : Limit → Which → Bool
has_pair x First = not (x.avg == 0)
has_pair x Second = not (x.avg == 0) && nat_lt 1 x.burst_length

-- the rate of a pair in units a second, which are nano-units a nanosecond
abbrev pub rate_of : Limit → Which → ℕ
rate_of x First = x.avg
rate_of x Second = x.max

-- the bucket of a pair in nano-units: for the long run a tenth of a second at the rate avg, or a whole burst at the
-- rate max; for bursts a tenth of a second at the rate max
abbrev pub capacity : Limit → Which → ℕ
capacity x First = if x.max == 0 then x.avg * 10 ^ 8 else x.max * x.burst_length * 10 ^ 9
capacity x Second = x.max * 10 ^ 8

abbrev pub burst_for : Limit → Option Burst
burst_for x = if nat_lt 1 x.burst_length then Some (record { rate = x.max; bucket = x.max * 10 ^ 8 }) else None

abbrev pub bucket_for : Limit → BucketValue
bucket_for x = opened_bucket x.avg (capacity x First) (burst_for x)

abbrev pub sides_for : Limit → Limit → Limit → Sides
sides_for total read write = record { total = bucket_for total; read = bucket_for read; write = bucket_for write }

-- nothing admitted yet under these limits
abbrev pub budget_for : Limits → Budget
budget_for l = record {
  bytes = sides_for l.bps_total l.bps_read l.bps_write;
  ops = sides_for l.iops_total l.iops_read l.iops_write;
  iops_size = l.iops_size;
  reading = 0;
}

-- the limit of a direction alone
abbrev pub own_bucket : Sides → Dir → BucketValue
own_bucket s Read = s.read
own_bucket s Write = s.write

-- a reading below the greatest at which a request went counts as that one
abbrev pub reading_at : Budget → ℕ → ℕ
reading_at b now = max now b.reading

-- the greatest wait of the limits of bytes, or of operations, that apply to a direction
abbrev pub side_wait : Sides → Dir → ℕ → ℕ
side_wait s d t = max (wait_of s.total t) (wait_of (own_bucket s d) t)

-- the greatest wait of all limits that apply to a direction
abbrev pub wait_for : Budget → Dir → ℕ → ℕ
wait_for b d t = max (side_wait b.bytes d t) (side_wait b.ops d t)

-- the limits that apply to a direction count a request
abbrev pub charged_side : Sides → Dir → ℕ → ℕ → Sides
charged_side s Read t units = record { total = filled s.total t units; read = filled s.read t units; write = s.write }
charged_side s Write t units = record { total = filled s.total t units; read = s.read; write = filled s.write t units }

-- the nano-units of a request of n bytes: 10^9 for each byte
abbrev pub byte_units : ℕ → ℕ
byte_units n = n * 10 ^ 9

-- and 10^9 for the operation; where operations have a size, 10^9 for each such size of bytes, if that is more
abbrev pub op_units : Budget → ℕ → ℕ
op_units b n = if b.iops_size == 0 then 10 ^ 9 else max (10 ^ 9) (div_ceil (n * 10 ^ 9) b.iops_size)

-- a request of n bytes goes at reading t
abbrev pub charged : Budget → Dir → ℕ → ℕ → Budget
charged b d n t = record {
  bytes = charged_side b.bytes d t (byte_units n);
  ops = charged_side b.ops d t (op_units b n);
  iops_size = b.iops_size;
  reading = t;
}
