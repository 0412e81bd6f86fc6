use Rattle.std.proofs.Common.{take}
use Rattle.qs_group.proofs.Nearest.{Nearest}
use Rattle.qs_group.proofs.queue.turn_member.Given as goal

abbrev pub invariant-loop-w : goal.invariant-loop-w
invariant-loop-w l = Nearest l.waiting (take l.w-index l.waiting) l.turn l.dir l.nearest
