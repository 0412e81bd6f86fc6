-- The levels of a group, by name, and what applies to a request.
use Rattle.std.specs.Prelude.{ℕ, Bool, true, false}
use Rattle.qs_part.specs.declared.group.Dir.{Dir}
use Rattle.qs_part.specs.declared.group.Dir.TheVariants.{Read, Write}
use Rattle.qs_part.specs.declared.limits.Dim.{Dim}
use Rattle.qs_part.specs.declared.limits.Dim.TheVariants.{BpsTotal, BpsRead, BpsWrite, IopsTotal, IopsRead, IopsWrite}
use Rattle.qs_bucket.specs.Level.{LevelValue}
use Rattle.qs_bucket.specs.Bucket.{BucketValue}
use Rattle.qs_group.specs.declared.budget.Budget.{Budget}
use Rattle.qs_group.specs.Budget.{Which, First, Second, byte_units, op_units}

-- what names a pair of a group's limits, and the level that counts for it
pub record Key : Type 0 where
  pub dim : Dim
  pub which : Which

-- the bucket of a limit
abbrev pub bucket_in : Budget → Dim → BucketValue
bucket_in b BpsTotal = b.bytes.total
bucket_in b BpsRead = b.bytes.read
bucket_in b BpsWrite = b.bytes.write
bucket_in b IopsTotal = b.ops.total
bucket_in b IopsRead = b.ops.read
bucket_in b IopsWrite = b.ops.write

abbrev pub level_in : BucketValue → Which → LevelValue
level_in b First = b.first
level_in b Second = b.second

-- the level of a pair
abbrev pub level_of : Budget → Key → LevelValue
level_of b key = level_in (bucket_in b key.dim) key.which

-- a read meets the limits of all and of reads, a write those of all and of writes
abbrev pub applies : Dim → Dir → Bool
applies BpsRead Write = false
applies BpsWrite Read = false
applies IopsRead Write = false
applies IopsWrite Read = false
applies _ _ = true

-- the nano-units that a limit counts for a request of n bytes
abbrev pub units_for : Budget → Dim → ℕ → ℕ
units_for b BpsTotal n = byte_units n
units_for b BpsRead n = byte_units n
units_for b BpsWrite n = byte_units n
units_for b IopsTotal n = op_units b n
units_for b IopsRead n = op_units b n
units_for b IopsWrite n = op_units b n
