use Rattle.qs_perm.proofs.Pairs.{NoneBefore}
use Rattle.qs_perm.proofs.users.check.Given as goal

abbrev pub invariant-loop-first : goal.invariant-loop-first
invariant-loop-first l = NoneBefore l.users l.first
