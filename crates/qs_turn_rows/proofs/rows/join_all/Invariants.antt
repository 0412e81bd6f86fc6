use Rattle.std.proofs.Common.{vec_len}
use Rattle.qs_turn_rows.proofs.Places.{Joining}
use Rattle.qs_turn_rows.proofs.rows.join_all.Given as goal

abbrev pub invariant-loop-other : goal.invariant-loop-other
invariant-loop-other g l = Joining l.turns l.initial.passes.items l.initial.others.items l.passes.items l.others.items

abbrev pub decreases-loop-other : goal.decreases-loop-other
decreases-loop-other g l = vec_len l.others
