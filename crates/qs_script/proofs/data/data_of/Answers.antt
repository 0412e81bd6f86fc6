-- A word with a star spells one byte over and over, and every other one pairs of digits.
use Rattle.std.proofs.Common.{arith, refl}
use Rattle.std.proofs.lemmas.List.{take_rest}
use Rattle.qs_script.proofs.DataWords.{ok_star, fault_star, fault_pairs}
use Rattle.qs_script.proofs.data.data_of.Goals as goal

pub returns-then-has_star-clause-ok : goal.returns-then-has_star-clause-ok
returns-then-has_star-clause-ok c =
    let star = c.if-has_star.ensures.0 refl in
    ok_star c.args.word.now c.repeated.result star.0 star.1 (rw take_rest at c.repeated.ensures.ok)

pub returns-then-has_star-clause-fault : goal.returns-then-has_star-clause-fault
returns-then-has_star-clause-fault c =
    let star = c.if-has_star.ensures.0 refl in
    fault_star c.args.word.now c.repeated.result star.0 star.1 (rw take_rest at c.repeated.ensures.fault)

pub returns-clause-fault : goal.returns-clause-fault
returns-clause-fault c =
    fault_pairs c.args.word.now c.pairs.result (grind arith) (λ minus. let told = c.if-is_minus.ensures.1 minus in cc)
    (λ long star. let told = c.if-has_star.ensures.1 (long, star) in cc) c.pairs.ensures.fault
