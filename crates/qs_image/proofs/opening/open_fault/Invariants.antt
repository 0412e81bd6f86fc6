-- Each disk so far is like the first.
use Rattle.std.specs.Prelude.{map}
use Rattle.qs_image.specs.Opening.{AllAlike}
use Rattle.qs_image.proofs.opening.open_fault.Given as goal

abbrev pub invariant-loop-k : goal.invariant-loop-k
invariant-loop-k g l = AllAlike (map g.D.Disk.seen l.disks) l.k
