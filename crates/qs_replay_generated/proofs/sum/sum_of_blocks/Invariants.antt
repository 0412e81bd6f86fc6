-- The blocks so far were loaded and added.
use Rattle.std.specs.Prelude.{map}
use Rattle.qs_image.specs.Image.{align_of}
use Rattle.qs_replay_generated.specs.Summing.{SumsUp}
use Rattle.qs_replay_generated.proofs.sum.sum_of_blocks.Given as goal

abbrev pub invariant-loop-b : goal.invariant-loop-b
invariant-loop-b g l = SumsUp g.D.Disk.seen (align_of (map g.D.Disk.seen l.fn.disks)) l.b l.fn.disks l.sum l.disks
