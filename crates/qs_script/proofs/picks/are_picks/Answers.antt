-- A word is cut off, and spells a pair, or else no word does.
use Rattle.std.proofs.Common.{[], ◌∷◌, ◌++◌, refl, ap, ◌∙◌}
use Rattle.qs_script.specs.Lines.{words_left}
use Rattle.qs_script.proofs.Picking.{bad_word, so_far_bad, so_far_cut, so_far_more}
use Rattle.qs_script.proofs.picks.are_picks.Goals as goal

pub returns-in-None : goal.returns-in-None
returns-in-None c = (
  λ told. absurd (cc),
  λ spelled.
      let so_far = so_far_cut c.loop-behind.invariant.1 (ap words_left c.in-Some.is ∙ c.cut_word.ensures) in
      absurd (so_far_bad _ c.loop-behind.invariant.0 _ so_far (bad_word _ _ (c.in-None.ensures.none refl)) spelled.0 spelled.1),
)

pub loop-behind-preserved : goal.loop-behind-preserved
loop-behind-preserved c =
    let so_far = so_far_cut c.loop-behind.invariant.1 (ap words_left c.in-Some.is ∙ c.cut_word.ensures) in
    (c.loop-behind.invariant.0 ++ c.in-Some-pick_of.field-0 ∷ [], so_far_more _ _ _ _ _ so_far c.in-Some-pick_of.ensures.some)
