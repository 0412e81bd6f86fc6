use Rattle.qs_world.proofs.Crashes.{SoFar}
use Rattle.qs_world.proofs.crash.crash_all.Given as goal

abbrev pub invariant-loop-j : goal.invariant-loop-j
invariant-loop-j g l = SoFar g.D.Disk.seen l.choice l.fn.stripes l.stripes l.j
