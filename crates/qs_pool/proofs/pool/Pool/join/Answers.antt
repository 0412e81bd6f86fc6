use Rattle.qs_pool.proofs.Lining.{joins}
use Rattle.qs_pool.proofs.pool.Pool.join.Goals as goal

pub absorb-requires-clause-rule : goal.absorb-requires-clause-rule
absorb-requires-clause-rule g c = joins _ _ _ _
