use Rattle.qs_pool.proofs.Lining.{admits}
use Rattle.qs_pool.proofs.pool.Pool.pass.Goals as goal

pub pass-requires : goal.pass-requires
pass-requires g c = admits
