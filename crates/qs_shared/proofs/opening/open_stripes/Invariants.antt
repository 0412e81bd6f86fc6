use Rattle.std.proofs.Common.{◌≡◌}
use Rattle.std.specs.Vec.{vec_len, vec_capacity}
use Rattle.qs_shared.proofs.NewTurns.{OpeningStripes}
use Rattle.qs_shared.proofs.opening.open_stripes.Given as goal

abbrev pub invariant-loop-alloc : goal.invariant-loop-alloc
invariant-loop-alloc g l = record {
  opens : OpeningStripes g.D.Disk.seen l.fn.disks.items l.disks.items l.turns.items l.passes.items;
  same : vec_capacity l.disks ≡ vec_capacity l.fn.disks;
}

abbrev pub decreases-loop-alloc : goal.decreases-loop-alloc
decreases-loop-alloc g l = vec_len l.disks
