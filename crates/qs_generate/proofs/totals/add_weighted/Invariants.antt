-- What is added so far and what is left come to the same.
use Rattle.std.proofs.Common.{◌≡◌, ◌+◌, ◌%◌, ◌^◌, drop}
use Rattle.qs_generate.specs.Sums.{weighted}
use Rattle.qs_generate.proofs.totals.add_weighted.Given as goal

abbrev pub invariant-loop-i : goal.invariant-loop-i
invariant-loop-i l = (l.total + weighted (l.first + l.i) (drop l.i l.bytes)) % 2 ^ 64 ≡ (l.fn.sum + weighted l.first l.bytes) % 2 ^ 64
