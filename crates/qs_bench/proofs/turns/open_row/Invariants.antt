use Rattle.qs_turn.specs.Words.{IsPassOf}
use Rattle.qs_turn_rows.specs.Rows.{Pairs, Each, IsAlone}
use Rattle.qs_bench.proofs.turns.open_row.Given as goal

abbrev pub invariant-loop : goal.invariant-loop
invariant-loop l = Pairs IsPassOf l.turns.items l.passes.items × Each IsAlone l.passes.items
