use Rattle.std.proofs.Common.{rules, ◌+◌, ◌*◌, ◌∷◌, length, Some, None, sym, ap, ◌∙◌}
use Rattle.atomic_table.specs.Table.{rest}
use Rattle.qs_turn.specs.Rule.{slot}
use Rattle.qs_turn.proofs.Calling.{first_slot, gives_turn}
use Rattle.qs_turn.proofs.turn.Turn+P.give.Goals as goal

pub exchange-requires : goal.exchange-requires
exchange-requires g c = (search rules, (slot None None, first_slot _ _ _ c.requires.gives.out))

pub store-requires : goal.store-requires
store-requires g c =
    let gives = c.requires.gives in
    let home = c.exchange.ensures.3 in (
      search rules,
      search rules,
      gives_turn _ _ _ _ _ _ gives.before c.args.part c.args.said (ap (λ m. m.0.turn) home ∙ gives.turn) (ap (λ m. m.1) home ∙ ap (λ l. (0, slot (Some c.args.part) (Some c.args.said)) ∷ rest l) gives.out) gives.step
          (ap (λ n. n + 2) gives.even ∙ ap (λ m. 2 * length m.0.mine.seen + 2) (sym home)),
    )
