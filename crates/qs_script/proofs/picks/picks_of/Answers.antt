-- A word is cut off, and its pair is put behind the others.
use Rattle.std.proofs.Common.{refl, ap, ◌∙◌}
use Rattle.qs_script.specs.Lines.{words_left}
use Rattle.qs_script.proofs.Picking.{bad_word, so_far_bad, so_far_cut, so_far_fault, so_far_more}
use Rattle.qs_script.proofs.picks.picks_of.Goals as goal

pub returns-in_default-pick_of-clause-fault : goal.returns-in_default-pick_of-clause-fault
returns-in_default-pick_of-clause-fault c =
    let so_far = so_far_cut c.loop-behind.invariant (ap words_left c.in-Some.is ∙ c.cut_word.ensures) in
    so_far_bad _ c.loop-behind.picks.items _ so_far (bad_word _ _ (c.in_default-pick_of.ensures.none refl))

pub returns-in-Err-clause-fault : goal.returns-in-Err-clause-fault
returns-in-Err-clause-fault c =
    let so_far = so_far_cut c.loop-behind.invariant (ap words_left c.in-Some.is ∙ c.cut_word.ensures) in
    so_far_fault _ _ _ c.refused.result (so_far_more _ _ _ _ _ so_far c.in-Some-pick_of.ensures.some) c.refused.ensures

pub loop-behind-preserved : goal.loop-behind-preserved
loop-behind-preserved c =
    let so_far = so_far_cut c.loop-behind.invariant (ap words_left c.in-Some.is ∙ c.cut_word.ensures) in
    rw c.in-Ok.ensures.items (so_far_more _ _ _ _ _ so_far c.in-Some-pick_of.ensures.some)
