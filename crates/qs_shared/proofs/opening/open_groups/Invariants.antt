use Rattle.qs_shared.specs.Rows.{OpensGroups}
use Rattle.qs_shared.proofs.opening.open_groups.Given as goal

abbrev pub invariant-loop : goal.invariant-loop
invariant-loop l = OpensGroups l.counter l.turns.items l.passes.items
