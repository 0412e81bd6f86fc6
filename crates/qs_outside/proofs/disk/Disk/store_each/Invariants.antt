-- The blocks so far were stored, one after the other.
use Rattle.qs_outside.specs.Blocks.{Fixed}
use Rattle.qs_outside.specs.Runs.{InOrder, StoresAt}
use Rattle.qs_outside.proofs.disk.Disk.store_each.Given as goal

abbrev pub invariant-loop-i : goal.invariant-loop-i
invariant-loop-i g l =
    Fixed (g.Self.Disk.seen l.fn.self) (g.Self.Disk.seen l.self)
    × InOrder (StoresAt l.align l.b l.bytes) l.i (g.Self.Disk.seen l.fn.self) (g.Self.Disk.seen l.self)
