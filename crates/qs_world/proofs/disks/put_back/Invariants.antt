use Rattle.std.proofs.Common.{◌≡◌, ◌+◌, ◌≤◌, ◌++◌, map}
use Rattle.std.specs.Vec.{vec_len, vec_capacity}
use Rattle.qs_world.proofs.disks.put_back.Given as goal

abbrev pub invariant-loop-stripe : goal.invariant-loop-stripe
invariant-loop-stripe g l = record {
  disks : map (λ s. s.disk) l.stripes.items ++ l.disks.items ≡ map (λ s. s.disk) l.fn.stripes.items ++ l.fn.disks.items;
  room : vec_len l.stripes + vec_len l.disks ≤ vec_capacity l.disks;
  same : vec_capacity l.disks ≡ vec_capacity l.fn.disks;
}

abbrev pub decreases-loop-stripe : goal.decreases-loop-stripe
decreases-loop-stripe g l = goal.left-loop-stripe g l
