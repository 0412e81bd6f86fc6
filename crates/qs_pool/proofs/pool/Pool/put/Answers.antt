use Rattle.qs_pool.proofs.Lining.{puts, waits}
use Rattle.qs_pool.proofs.pool.Pool.put.Goals as goal

pub push_as-requires-clause-rule : goal.push_as-requires-clause-rule
push_as-requires-clause-rule g c = (puts _ _ _ _, waits _ _)
