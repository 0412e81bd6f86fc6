use Rattle.std.proofs.Common.{rules, Some}
use Rattle.qs_turn.specs.Rule.{slot}
use Rattle.qs_turn.proofs.Calling.{first_slot}
use Rattle.qs_turn.proofs.turn.Turn+P.take.Goals as goal

pub exchange-part-requires : goal.exchange-part-requires
exchange-part-requires g c =
    let took = c.turn_word-word.ensures.took in
    (search rules, (slot (Some took.state) took.said, first_slot _ _ _ took.out))
