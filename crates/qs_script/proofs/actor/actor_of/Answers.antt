-- A word spells an actor by its first dot alone.
use Rattle.std.proofs.Common.{◌+◌, refl, add-one}
use Rattle.std.proofs.lemmas.List.{take_rest}
use Rattle.qs_script.proofs.Splitting.{no_dot, dotted}
use Rattle.qs_script.proofs.actor.actor_of.Goals as goal

pub returns-in_err-of-in-None-clause-none : goal.returns-in_err-of-in-None-clause-none
returns-in_err-of-in-None-clause-none c = λ e who is.
    no_dot c.args.word.now c.in-None.ensures c.in_err-of-in-None.ensures who is

pub returns-in_err-of-in-Some-clause-none : goal.returns-in_err-of-in-Some-clause-none
returns-in_err-of-in-Some-clause-none c = λ e who is.
    c.in_err-of-in-Some.ensures (dotted c.args.word.now c.in-Some.at c.in-Some.ensures who is).0

pub returns-in_err-number-in-Some-clause-none : goal.returns-in_err-number-in-Some-clause-none
returns-in_err-number-in-Some-clause-none c = λ e who is.
    let cookie = (dotted c.args.word.now c.in-Some.at c.in-Some.ensures who is).1 in
    c.in_err-number-in-Some.ensures.none refl cookie.0 (rw (take_rest c.args.word.now (c.in-Some.at + 1), add-one) cookie.1)
