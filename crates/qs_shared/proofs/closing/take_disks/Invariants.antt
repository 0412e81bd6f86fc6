use Rattle.std.proofs.Common.{◌≡◌, ◌+◌, ◌≤◌, ◌++◌, length, map, reverse}
use Rattle.std.specs.Vec.{vec_len, vec_capacity}
use Rattle.qs_stripe.specs.Table.{StripeState}
use Rattle.qs_shared.proofs.closing.take_disks.Given as goal

abbrev pub invariant-loop-stripe : goal.invariant-loop-stripe
invariant-loop-stripe g l = record {
  disks : map (λ (s : StripeState g.row.D.Denot). s.disk) l.stripes.items ++ reverse l.disks.items
      ≡ map (λ (s : StripeState g.row.D.Denot). s.disk) l.initial.stripes.items;
  room : length l.stripes.items + length l.disks.items ≤ vec_capacity l.disks;
}

abbrev pub decreases-loop-stripe : goal.decreases-loop-stripe
decreases-loop-stripe g l = vec_len l.stripes
