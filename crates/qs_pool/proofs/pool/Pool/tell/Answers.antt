use Rattle.qs_pool.proofs.Lining.{fair}
use Rattle.qs_pool.proofs.pool.Pool.tell.Goals as goal

pub learn_as-requires-clause-rule : goal.learn_as-requires-clause-rule
learn_as-requires-clause-rule g c = fair _ _
