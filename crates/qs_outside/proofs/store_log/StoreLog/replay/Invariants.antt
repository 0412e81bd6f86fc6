-- The stores so far are replayed.
use Rattle.std.proofs.Common.{◌≡◌, length, take}
use Rattle.qs_outside.specs.Blocks.{Fixed}
use Rattle.qs_outside.specs.Crashes.{chosen}
use Rattle.qs_outside.specs.Held.{block_of, quiet_seen}
use Rattle.qs_outside.proofs.Replays.{Left}
use Rattle.qs_outside.proofs.store_log.StoreLog.replay.Given as goal

abbrev pub invariant-loop-j : goal.invariant-loop-j
invariant-loop-j l =
    Left (chosen l.choice) (take l.j l.self.stores) (block_of l.fn.into) (block_of l.into)
    × Fixed (quiet_seen l.fn.into) (quiet_seen l.into) × (length l.into.bytes ≡ length l.fn.into.bytes)
