-- The names are names, and the core has no export before its own.
use Rattle.std.proofs.Common.{arith, refl}
use Rattle.std.specs.Prelude.{codes}
use Rattle.qs_world.proofs.Opening.{opened_without}
use Rattle.qs_calls.proofs.open.open_core.Goals as goal

pub unreachable-requires : goal.unreachable-requires
unfolding lib.Utf8.encode
unreachable-requires g c = c.in_default.ensures (omega arith, (codes "file0", (refl, refl)))

pub unreachable-requires-in_default-of : goal.unreachable-requires-in_default-of
unfolding lib.Utf8.encode
unreachable-requires-in_default-of g c = c.in_default-of.ensures (omega arith, (codes "disk", (refl, refl)))

pub export_disk-requires-clause-none : goal.export_disk-requires-clause-none
export_disk-requires-clause-none g c = opened_without g.D.Disk.seen _ _ _ c.in-Ok.world c.in-Ok.ensures
