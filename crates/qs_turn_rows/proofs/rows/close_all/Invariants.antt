use Rattle.std.proofs.Common.{vec_len, vec_capacity}
use Rattle.qs_part.specs.Histories.{lawful}
use Rattle.qs_turn_rows.proofs.Closes.{Closing}
use Rattle.qs_turn_rows.proofs.rows.close_all.Given as goal

abbrev pub invariant-loop-turn : goal.invariant-loop-turn
invariant-loop-turn g l =
    Closing (lawful g.P.Part.fixed_of g.P.Part.can g.P.Part.legal) l.initial.turns.items l.initial.passes.items l.turns.items l.passes.items l.parts.items (vec_capacity l.parts)

abbrev pub decreases-loop-turn : goal.decreases-loop-turn
decreases-loop-turn g l = vec_len l.turns
