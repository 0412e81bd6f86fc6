-- The words that were read spell these pairs.
use Rattle.std.proofs.Common.{length}
use Rattle.qs_script.specs.Lines.{words_left}
use Rattle.qs_script.proofs.Picking.{IsSoFar}
use Rattle.qs_script.proofs.picks.picks_of.Given as goal

abbrev pub invariant-loop-behind : goal.invariant-loop-behind
invariant-loop-behind l = IsSoFar (words_left l.fn.left) l.picks.items (words_left l.behind)

abbrev pub decreases-loop-behind : goal.decreases-loop-behind
decreases-loop-behind l = length (words_left l.behind)
