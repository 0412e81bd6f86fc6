-- What spells a number is digits without leading zeros, so it is text.
use Rattle.std.proofs.Common.{arith}
use Rattle.qs_script.proofs.Digits.{is_utf8, spelled_plain}
use Rattle.qs_script.proofs.number.number.Goals as goal

pub returns-then-not-is_plain-clause-none : goal.returns-then-not-is_plain-clause-none
returns-then-not-is_plain-clause-none c = λ e n is.
    let plain = spelled_plain c.args.most c.args.word.now n (omega arith) is in
    let told = c.is_plain.ensures.1 plain in
    absurd (cc (told, c.if-not-is_plain.true))

pub returns-in-Err-clause-none : goal.returns-in-Err-clause-none
returns-in-Err-clause-none c = λ e n is.
    c.in-Err.ensures.cases.0 (is_utf8 c.args.word.now (spelled_plain c.args.most c.args.word.now n (omega arith) is))
