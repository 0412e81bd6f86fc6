-- A word spells a pair by its first `=` alone.
use Rattle.std.proofs.Common.{◌+◌, refl, add-one}
use Rattle.std.proofs.lemmas.List.{take_rest}
use Rattle.qs_script.proofs.Picking.{no_sign, parted}
use Rattle.qs_script.proofs.picks.pick_of.Goals as goal

pub returns-in_err-at-clause-none : goal.returns-in_err-at-clause-none
returns-in_err-at-clause-none c = λ e pick is. no_sign c.args.word.now c.in_err-at.ensures pick is

pub returns-in_err-block-clause-none : goal.returns-in_err-block-clause-none
returns-in_err-block-clause-none c = λ e pick is.
    c.in_err-block.ensures.none refl pick.0 (parted c.args.word.now c.in_ok-at.at c.in_ok-at.ensures pick is).0

pub returns-in_err-place-clause-none : goal.returns-in_err-place-clause-none
returns-in_err-place-clause-none c = λ e pick is.
    let place = (parted c.args.word.now c.in_ok-at.at c.in_ok-at.ensures pick is).1 in
    c.in_err-place.ensures.none refl pick.1 (rw (take_rest c.args.word.now (c.in_ok-at.at + 1), add-one) place)
