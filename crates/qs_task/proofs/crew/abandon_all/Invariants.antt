use Rattle.std.proofs.Common.{◌≡◌, ◌++◌, map, take, drop}
use Rattle.qs_task.specs.Crews.{abandoned_task}
use Rattle.qs_task.proofs.crew.abandon_all.Given as goal

abbrev pub invariant-loop-task : goal.invariant-loop-task
invariant-loop-task l = l.task-items ≡ map abandoned_task (take l.task-index l.fn.tasks) ++ drop l.task-index l.fn.tasks
