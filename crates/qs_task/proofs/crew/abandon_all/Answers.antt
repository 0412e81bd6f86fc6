use Rattle.std.proofs.Common.{◌≡◌, false, get_or, ap}
use Rattle.std.proofs.lemmas.List.Edits.{map_over_more}
use Rattle.qs_task.specs.Crews.{abandoned_task}
use Rattle.qs_task.specs.Tasks.{TaskValue}
use Rattle.qs_task.proofs.Crewing.{next_is, map_over}
use Rattle.qs_task.proofs.crew.abandon_all.Goals as goal

pub abandon-requires : goal.abandon-requires
abandon-requires c =
    next_is (λ (t : TaskValue). t.over ≡ false) abandoned_task c.args.tasks.now c.loop-task.task-items c.loop-task.task-index c.task-item.result
    c.requires c.loop-task-test.true c.loop-task.invariant

pub loop-task-preserved : goal.loop-task-preserved
loop-task-preserved c =
    rw c.abandon.ensures
    (map_over_more abandoned_task c.args.tasks.now c.loop-task.task-items c.loop-task.task-index
    (get_or c.loop-task.task-items c.loop-task.task-index c.task-item.result) c.loop-task-test.true c.loop-task.invariant
    (ap (λ (x : TaskValue). get_or c.loop-task.task-items c.loop-task.task-index x) c.task-item.is))

pub returns : goal.returns
returns c = map_over abandoned_task c.args.tasks.now c.loop-task.task-items c.loop-task.task-index c.loop-task-test.false c.loop-task.invariant
