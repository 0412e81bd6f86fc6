use Rattle.std.proofs.Common.{◌≡◌, ◌+◌, ◌≤◌, ◌++◌, map}
use Rattle.std.specs.List.{AllByRecursion}
use Rattle.std.specs.Vec.{vec_len, vec_capacity}
use Rattle.qs_stripe.specs.Table.{Opened, value_of as stripe_value}
use Rattle.qs_world.proofs.disks.put_away.Given as goal

abbrev pub invariant-loop-alloc : goal.invariant-loop-alloc
invariant-loop-alloc g l = record {
  disks : map (λ s. s.disk) l.stripes.items ++ l.disks.items ≡ l.fn.disks.items;
  free : AllByRecursion (λ s. Opened (stripe_value g.D.Disk.seen s)) l.stripes.items;
  room : vec_len l.stripes + vec_len l.disks ≤ vec_capacity l.stripes;
  place : vec_len l.stripes + vec_len l.disks ≤ vec_capacity l.disks;
  same : vec_capacity l.disks ≡ vec_capacity l.fn.disks;
}

abbrev pub decreases-loop-alloc : goal.decreases-loop-alloc
decreases-loop-alloc g l = vec_len l.disks
