-- The blocks so far were loaded, one after the other.
use Rattle.std.proofs.Common.{◌≡◌, ◌*◌, length}
use Rattle.qs_outside.specs.Blocks.{Fixed}
use Rattle.qs_outside.specs.Runs.{InOrder, LoadsAt}
use Rattle.qs_outside.proofs.disk.Disk.load_each.Given as goal

abbrev pub invariant-loop-i : goal.invariant-loop-i
invariant-loop-i g l =
    Fixed (g.Self.Disk.seen l.fn.self) (g.Self.Disk.seen l.self) × (length l.into ≡ l.n * l.align)
    × InOrder (LoadsAt l.align l.b l.into) l.i (g.Self.Disk.seen l.fn.self) (g.Self.Disk.seen l.self)
