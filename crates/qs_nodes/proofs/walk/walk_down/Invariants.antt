use Rattle.std.proofs.Common.{◌≡◌, ◌-◌, length, drop}
use Rattle.qs_nodes.specs.Ways.{walk_begun, walked}
use Rattle.qs_nodes.proofs.walk.walk_down.Given as goal

abbrev pub invariant-loop-done : goal.invariant-loop-done
invariant-loop-done l = l.walk ≡ walked (drop (length l.nodes - l.done) l.nodes) (walk_begun l.fn.place l.fn.node.size)
