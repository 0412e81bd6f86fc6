use Rattle.qs_perm.proofs.Pairs.{one_more}
use Rattle.qs_perm.proofs.users.check.Goals as goal

pub loop-first-preserved : goal.loop-first-preserved
loop-first-preserved c = one_more c.args.users.now c.loop-first.first c.loop-first.invariant c.in-None.ensures
