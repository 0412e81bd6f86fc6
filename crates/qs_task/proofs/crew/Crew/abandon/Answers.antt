use Rattle.std.proofs.Common.{ℕ, ◌≤◌, List, sym, subst}
use Rattle.std.specs.List.{AllByRecursion}
use Rattle.qs_task.specs.Tasks.{TaskValue}
use Rattle.qs_task.specs.Crews.{IsManned}
use Rattle.qs_task.proofs.Crewing.{all_free, still_free}
use Rattle.qs_task.proofs.crew.Crew.abandon.Goals as goal

pub abandon_each-requires : goal.abandon_each-requires
abandon_each-requires c = all_free c.self.inside.shape c.self.inside.tasks.items c.self.invariant.1

pub invariant_of-self : goal.invariant_of-self
invariant_of-self c = (
  subst (λ (n : ℕ). 16 ≤ n) (sym c.abandon_each.ensures.capacity) c.self.invariant.0,
  subst (λ (ts : List TaskValue). AllByRecursion (IsManned c.self.inside.shape) ts) (sym c.abandon_each.ensures.items)
      (still_free c.self.inside.shape c.self.inside.tasks.items c.self.invariant.1),
)
