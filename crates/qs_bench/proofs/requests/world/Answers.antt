use Rattle.qs_world.proofs.Opening.{opened_without}
use Rattle.qs_bench.proofs.requests.world.Goals as goal

pub export_disk-requires-clause-none : goal.export_disk-requires-clause-none
export_disk-requires-clause-none c = opened_without _ _ _ _ _ c.in-Ok.ensures
