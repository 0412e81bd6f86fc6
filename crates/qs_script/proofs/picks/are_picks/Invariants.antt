-- The words that were read spell pairs.
use Rattle.std.proofs.Common.{ℕ, List, length}
use Rattle.qs_script.specs.Lines.{words_left}
use Rattle.qs_script.proofs.Picking.{IsSoFar}
use Rattle.qs_script.proofs.picks.are_picks.Given as goal

abbrev pub invariant-loop-behind : goal.invariant-loop-behind
invariant-loop-behind l = (pairs : List (ℕ × ℕ)) × IsSoFar (words_left l.fn.left) pairs (words_left l.behind)

abbrev pub decreases-loop-behind : goal.decreases-loop-behind
decreases-loop-behind l = length (words_left l.behind)
