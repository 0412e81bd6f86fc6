-- The limits of a throttle group and the rules that they keep, after QEMU's util/throttle.c.
use Rattle.std.specs.Prelude.{Bool, false, not, ◌||◌, ◌&&◌, ◌==◌, nat_lt, ◌*◌, ◌^◌, List, [], ◌∷◌, ◌++◌, map, find, Option}
use Rattle.qs_part.specs.declared.limits.Limit.{Limit}
use Rattle.qs_part.specs.declared.limits.Limits.{Limits}
use Rattle.qs_part.specs.declared.limits.Dim.{Dim}
use Rattle.qs_part.specs.declared.limits.Dim.TheVariants.{BpsTotal, BpsRead, BpsWrite, IopsTotal, IopsRead, IopsWrite}
use Rattle.qs_part.specs.declared.limits.Rule.{Rule}
use Rattle.qs_part.specs.declared.limits.Rule.TheVariants.{TooGreat, TotalAndPart, MaxWithoutAvg, MaxBelowAvg, BurstZero, BurstWithoutMax, BurstTooGreat}

-- the limit that a name stands for
abbrev pub limit_of : Limits → Dim → Limit
limit_of l BpsTotal = l.bps_total
limit_of l BpsRead = l.bps_read
limit_of l BpsWrite = l.bps_write
limit_of l IopsTotal = l.iops_total
limit_of l IopsRead = l.iops_read
limit_of l IopsWrite = l.iops_write

-- a limit is set where it has a rate
abbrev pub is_set : Limit → Bool
is_set x = not (x.avg == 0) || not (x.max == 0)

-- a value of the limit passes the greatest that there is, 10^15
abbrev pub passes_greatest : Limit → Bool
passes_greatest x = nat_lt (10 ^ 15) x.avg || nat_lt (10 ^ 15) x.max || nat_lt (10 ^ 15) x.burst_length

-- what a burst admits passes it
abbrev pub passes_greatest_burst : Limit → Bool
passes_greatest_burst x = not (x.max == 0) && nat_lt (10 ^ 15) (x.max * x.burst_length)

-- a limit of reads or of writes is set under this total; only the totals have such limits
abbrev pub has_part : Limits → Dim → Bool
has_part l BpsTotal = is_set l.bps_read || is_set l.bps_write
has_part l IopsTotal = is_set l.iops_read || is_set l.iops_write
has_part l _ = false

-- whether limits break a rule
abbrev pub breaks : Limits → Rule → Bool
breaks l (TooGreat d) = passes_greatest (limit_of l d)
breaks l (TotalAndPart d) = is_set (limit_of l d) && has_part l d
breaks l (MaxWithoutAvg d) = not ((limit_of l d).max == 0) && (limit_of l d).avg == 0
breaks l (MaxBelowAvg d) = not ((limit_of l d).max == 0) && nat_lt (limit_of l d).max (limit_of l d).avg
breaks l (BurstZero d) = (limit_of l d).burst_length == 0
breaks l (BurstWithoutMax d) = nat_lt 1 (limit_of l d).burst_length && (limit_of l d).max == 0
breaks l (BurstTooGreat d) = passes_greatest_burst (limit_of l d)

-- the six limits, in their order
abbrev pub dims : List Dim
dims = BpsTotal ∷ BpsRead ∷ BpsWrite ∷ IopsTotal ∷ IopsRead ∷ IopsWrite ∷ []

-- the rules in their order, each for the six limits
abbrev pub rules_in_order : List Rule
rules_in_order =
    map TooGreat dims ++ map TotalAndPart dims ++ map MaxWithoutAvg dims ++ map MaxBelowAvg dims ++
    map BurstZero dims ++ map BurstWithoutMax dims ++ map BurstTooGreat dims

-- the first rule that limits break, if there is one
abbrev pub first_broken : Limits → Option Rule
first_broken l = find (breaks l) rules_in_order
