use Rattle.std.proofs.Common.{◌≤◌, length, vec_capacity}
use Rattle.qs_turn_rows.proofs.Places.{Splitting}
use Rattle.qs_turn_rows.proofs.rows.split_into.Given as goal

abbrev pub invariant-loop-i : goal.invariant-loop-i
invariant-loop-i g l = Splitting l.turns l.initial.passes.items l.passes.items l.given.items l.i × (length l.turns ≤ vec_capacity l.given)
