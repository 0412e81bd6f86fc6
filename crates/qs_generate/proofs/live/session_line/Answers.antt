-- `disk` is a name.
use Rattle.std.proofs.Common.{arith, refl}
use Rattle.std.specs.Prelude.{codes}
use Rattle.qs_generate.proofs.live.session_line.Goals as goal

pub unreachable-requires : goal.unreachable-requires
unfolding lib.Utf8.encode
unreachable-requires c = c.in-None.ensures (omega arith, (codes "disk", (refl, refl)))
