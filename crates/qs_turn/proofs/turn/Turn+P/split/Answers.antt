use Rattle.std.proofs.Common.{rules, ap, ◌∙◌}
use Rattle.qs_turn.specs.Words.{is_first}
use Rattle.qs_turn.proofs.Ends.{splits_first}
use Rattle.qs_turn.proofs.turn.Turn+P.split.Goals as goal

pub split_seat-seat-requires : goal.split_seat-seat-requires
split_seat-seat-requires g c =
    (search rules, search rules, splits_first _ _ _ _ (ap is_first c.pass.view_is ∙ c.requires.first) c.pass.invariant.1.turn)
