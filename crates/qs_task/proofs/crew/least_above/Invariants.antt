use Rattle.std.proofs.Common.{take}
use Rattle.qs_task.specs.Crews.{NextAbove}
use Rattle.qs_task.proofs.crew.least_above.Given as goal

abbrev pub invariant-loop-task : goal.invariant-loop-task
invariant-loop-task l = NextAbove l.low (take l.task-index l.tasks) l.least
