-- The disks of the first stripes.
use Rattle.std.proofs.Common.{◌≡◌, ◌*◌, length}
use Rattle.qs_replay.specs.ZeroDisks.{AreFrom}
use Rattle.qs_replay.proofs.disks.zero_disks.Given as goal

abbrev pub invariant-loop-stripe : goal.invariant-loop-stripe
invariant-loop-stripe l = record {
  many : length l.disks.items ≡ l.stripe;
  are : AreFrom l.fn.told.align (l.fn.told.blocks * l.fn.told.align) 0 l.disks.items;
}
