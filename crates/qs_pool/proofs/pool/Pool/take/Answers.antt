use Rattle.qs_pool.proofs.Lining.{takes, waits}
use Rattle.qs_pool.proofs.pool.Pool.take.Goals as goal

pub pop_as-requires-clause-rule : goal.pop_as-requires-clause-rule
pop_as-requires-clause-rule g c = (takes _ _, waits _ _)
