-- A disk whose loads wait for a gate.
use Rattle.std.specs.Prelude.{ℕ, ◌+◌, None}
use Rattle.qs_outside.specs.Blocks.{Seen}

-- what such a disk means: the disk within, but that the loads that missed the gate count too, and no plan is told
abbrev pub gated_seen : ℕ → Seen → Seen
gated_seen missed disk = record disk { faults = missed + disk.faults; planned = None; full = None }
