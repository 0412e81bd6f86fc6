use Rattle.qs_pool.specs.Lines.{IsOfPool}
use Rattle.qs_pool.proofs.tests.take_all.Given as goal

abbrev pub invariant-loop : goal.invariant-loop
invariant-loop g l = IsOfPool l.pool l.pass
