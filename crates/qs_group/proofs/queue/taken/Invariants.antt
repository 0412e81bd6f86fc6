use Rattle.std.proofs.Common.{take}
use Rattle.qs_group.specs.Queue.{ShowsTickets}
use Rattle.qs_group.proofs.queue.taken.Given as goal

abbrev pub invariant-loop-w : goal.invariant-loop-w
invariant-loop-w l = ShowsTickets l.taken (take l.w-index l.waiting)
