use Rattle.std.proofs.Common.{length}
use Rattle.qs_keyval.proofs.nesting.+add.Given as goal

abbrev pub decreases-add : goal.decreases-add
decreases-add l = length l.key.now
