-- One task more was looked at.
use Rattle.std.proofs.Common.{◌≡◌, ℕ, List, [], ◌∷◌, ◌++◌, ◌+◌, take, sym, ap, ◌∙◌, subst}
use Rattle.std.specs.Prelude.{Option}
use Rattle.std.proofs.lemmas.List.{take_more}
use Rattle.qs_task.specs.Tasks.{TaskValue}
use Rattle.qs_task.specs.Crews.{NextAbove, lesser_above}
use Rattle.qs_task.proofs.Leasts.{next_more}
use Rattle.qs_task.proofs.crew.least_above.Goals as goal

pub loop-task-preserved : goal.loop-task-preserved
loop-task-preserved c =
    let t = c.task-item.result in
    let tasks = c.args.tasks.now in
    let i = c.loop-task.task-index in
    let front : take (i + 1) tasks ≡ take i tasks ++ t ∷ [] =
    take_more tasks i t c.loop-task-test.true ∙ ap (λ (x : TaskValue). take i tasks ++ x ∷ []) (sym c.task-item.is) in
    let least : c.lesser_above-least.result ≡ lesser_above c.args.low c.loop-task.least t.number =
    c.lesser_above-least.ensures ∙ ap (λ (n : ℕ). lesser_above c.args.low c.loop-task.least n) c.number.ensures in
    subst (λ (o : Option ℕ). NextAbove c.args.low (take (i + 1) tasks) o) (sym least)
    (subst (λ (xs : List TaskValue). NextAbove c.args.low xs (lesser_above c.args.low c.loop-task.least t.number)) (sym front)
    (next_more c.args.low (take i tasks) t c.loop-task.least c.loop-task.invariant))
