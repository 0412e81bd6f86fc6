use Rattle.qs_turn.specs.Words.{IsPassOf}
use Rattle.qs_turn_rows.specs.Rows.{Pairs}
use Rattle.qs_bench.proofs.turns.wander.Given as goal

abbrev pub invariant-loop-i : goal.invariant-loop-i
invariant-loop-i g l = Pairs IsPassOf l.turns l.passes.items
