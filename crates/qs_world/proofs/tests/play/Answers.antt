use Rattle.qs_world.proofs.Crashes.{crashed_without}
use Rattle.qs_world.proofs.tests.play.Goals as goal

pub export_disk-requires-clause-none : goal.export_disk-requires-clause-none
export_disk-requires-clause-none g c = crashed_without _ _ _ _ c.crash.ensures
