use Rattle.std.proofs.Common.{ℕ, sym, subst}
use Rattle.qs_part.specs.Histories.{lawful}
use Rattle.qs_turn_rows.proofs.Closes.{Closing, closing_none, closing_pair, closing_more}
use Rattle.qs_turn_rows.proofs.rows.close_all.Goals as goal

pub loop-turn-init : goal.loop-turn-init
loop-turn-init g c = closing_none _ _ _ _ _ c.requires.turns.long c.requires.room.0 c.requires.room.1

pub close-requires-clause-turn : goal.close-requires-clause-turn
close-requires-clause-turn g c =
    (closing_pair _ _ _ _ _ _ _ _ _ _ _ c.loop-turn.invariant c.in-Some.ensures.items c.in-Some-pop.ensures.items c.requires.turns c.requires.first).0

pub close-requires-clause-first : goal.close-requires-clause-first
close-requires-clause-first g c =
    (closing_pair _ _ _ _ _ _ _ _ _ _ _ c.loop-turn.invariant c.in-Some.ensures.items c.in-Some-pop.ensures.items c.requires.turns c.requires.first).1

pub loop-turn-preserved : goal.loop-turn-preserved
loop-turn-preserved g c =
    subst (λ (n : ℕ). Closing (lawful g.P.Part.fixed_of g.P.Part.can g.P.Part.legal) c.args.turns.items c.args.passes.items c.pop.new.self.items c.pop-in-Some.new.self.items c.push_reserved.new.self.items n) (sym c.push_reserved.ensures.capacity)
    (closing_more _ _ _ _ _ _ _ _ _ _ c.in-Some.turn c.in-Some-pop.pass c.close.result c.loop-turn.invariant c.in-Some.ensures.items c.in-Some-pop.ensures.items c.push_reserved.ensures.items
    (record { stands = c.close.ensures.part; whole = c.close.ensures.own }))
