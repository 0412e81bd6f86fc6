use Rattle.std.proofs.Common.{refl, ◌++◌, ◌∷◌, [], Some, None, ◌∙◌, ap}
use Rattle.qs_turn.specs.Rule.{slot}
use Rattle.qs_turn.proofs.Calling.{begins_as}
use Rattle.qs_turn.proofs.turn.Turn+P.new.Goals as goal

pub new-requires : goal.new-requires
new-requires g c = begins_as _ _ _ _ _ refl refl c.of-about.ensures (c.in_ok-push.ensures.items ∙ ap (λ l. l ++ slot (Some c.args.part) None ∷ []) c.new-slots.ensures.items)
