use Rattle.qs_turn_uses.specs.Ticks.{Ticked}
use Rattle.qs_turn_uses.proofs.tally.tick.Given as goal

abbrev pub invariant-loop-i : goal.invariant-loop-i
invariant-loop-i g l = Ticked l.turn l.i l.initial.pass l.pass
