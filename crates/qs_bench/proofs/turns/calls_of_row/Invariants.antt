use Rattle.qs_turn.specs.Words.{IsPassOf}
use Rattle.qs_turn_rows.specs.Rows.{Pairs}
use Rattle.qs_bench.proofs.turns.calls_of_row.Given as goal

abbrev pub invariant-loop-at : goal.invariant-loop-at
invariant-loop-at g l = Pairs IsPassOf l.turns l.passes.items
