use Rattle.std.proofs.Common.{rules, ap, ◌∙◌}
use Rattle.qs_turn.proofs.Ends.{joins_first, settles}
use Rattle.qs_turn.proofs.Told.{joined_told}
use Rattle.qs_turn.proofs.turn.Turn+P.join.Goals as goal

pub join_seat-requires : goal.join_seat-requires
join_seat-requires g c =
    let mine = c.pass.invariant.1 in
    let other = c.other.invariant.1 in
    (search rules, search rules, search rules, search rules, joins_first _ _ _ _ _ _ mine.turn mine.joining other.turn other.joining)

pub load-requires : goal.load-requires
load-requires g c =
    (search rules, search rules, settles _ _ _ _ _ (ap (λ m. m.0.turn) c.join_seat.ensures.2 ∙ c.pass.invariant.1.turn))

pub returns-clause-joined : goal.returns-clause-joined
returns-clause-joined g c =
    joined_told (record { turn = c.pass.inside.seat.table_id; view = c.pass.inside.seat.me.0 }) c.args.pass.now (record { turn = c.other.inside.seat.table_id; view = c.other.inside.seat.me.0 }) c.args.other
    c.load.new.seat.table_id c.join_seat.new.seat.me.0 c.load.new.seat.me c.pass.view_is c.other.view_is c.requires.first.0 c.requires.first.1 c.other.invariant.1
    (ap (λ m. m.0) c.join_seat.ensures.2) (ap (λ m. m.0) c.load.ensures.2.0) c.load.ensures.2.1
