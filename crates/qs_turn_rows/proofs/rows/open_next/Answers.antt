use Rattle.std.proofs.Common.{◌++◌, ◌∷◌, [], slice_get, ap, sym, ◌∙◌}
use Rattle.qs_turn_rows.proofs.Closes.{opened_pairs, opened_alone}
use Rattle.qs_turn_rows.proofs.rows.open_next.Goals as goal

pub returns-in_err-reserve-2-clause-alone : goal.returns-in_err-reserve-2-clause-alone
returns-in_err-reserve-2-clause-alone g c i k e = c.requires.alone i k (ap (λ l. slice_get l i) (sym c.reserve-2.ensures.items) ∙ e)

pub returns-in_err-turn-clause-alone : goal.returns-in_err-turn-clause-alone
returns-in_err-turn-clause-alone g c i k e = c.requires.alone i k (ap (λ l. slice_get l i) (sym c.reserve-2.ensures.items) ∙ e)

pub returns-clause-opened : goal.returns-clause-opened
returns-clause-opened g c = record {
  turn = c.in_ok-turn.turn;
  pass = c.in_ok-turn.pass;
  turns = c.push_reserved.ensures.items ∙ ap (λ l. l ++ c.in_ok-turn.turn ∷ []) c.reserve.ensures.items;
  passes = c.push_reserved-2.ensures.items ∙ ap (λ l. l ++ c.in_ok-turn.pass ∷ []) c.reserve-2.ensures.items;
  opens = c.in_ok-turn.ensures.turn.0;
  first = c.in_ok-turn.ensures.first.0;
  nothing_seen = c.in_ok-turn.ensures.first.1;
  nothing_own = c.in_ok-turn.ensures.first.2;
}

pub returns-clause-turns : goal.returns-clause-turns
returns-clause-turns g c =
    opened_pairs _ _ _ _ c.in_ok-turn.turn c.in_ok-turn.pass (c.push_reserved.ensures.items ∙ ap (λ l. l ++ c.in_ok-turn.turn ∷ []) c.reserve.ensures.items)
    (c.push_reserved-2.ensures.items ∙ ap (λ l. l ++ c.in_ok-turn.pass ∷ []) c.reserve-2.ensures.items) c.requires.turns c.in_ok-turn.ensures.turn.1

pub returns-clause-alone : goal.returns-clause-alone
returns-clause-alone g c =
    opened_alone _ _ c.in_ok-turn.pass (c.push_reserved-2.ensures.items ∙ ap (λ l. l ++ c.in_ok-turn.pass ∷ []) c.reserve-2.ensures.items) c.requires.alone
    (c.in_ok-turn.ensures.first.0, c.in_ok-turn.ensures.first.3)
