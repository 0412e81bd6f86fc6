use Rattle.std.proofs.Common.{◌≡◌}
use Rattle.qs_turn.proofs.turn.Turn+P.turn_word.Given as goal

-- nothing happened to the seat
abbrev pub invariant-loop : goal.invariant-loop
invariant-loop g l = (l.seat.table_id ≡ l.initial.seat.table_id) × (l.seat.me ≡ l.initial.seat.me)
