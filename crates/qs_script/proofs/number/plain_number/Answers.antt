-- The number that the digits spell is the one that `parse` answers.
use Rattle.std.proofs.Common.{arith}
use Rattle.qs_script.proofs.Digits.{parsed, unparsed, parsed_over}
use Rattle.qs_script.proofs.number.plain_number.Goals as goal

pub returns-in-Err-clause-none : goal.returns-in-Err-clause-none
returns-in-Err-clause-none c =
    λ e n is. unparsed c.args.most c.args.text.now c.requires c.in-Err.field-0 n (omega arith) c.in-Err.ensures.value.0 is

pub returns-then-n-most-clause-some : goal.returns-then-n-most-clause-some
returns-then-n-most-clause-some c =
    parsed c.args.most c.args.text.now c.requires c.in-Ok.n c.in-Ok.ensures.value.0 c.if-n-most.true

pub returns-else-n-most-clause-none : goal.returns-else-n-most-clause-none
returns-else-n-most-clause-none c =
    λ e n is. parsed_over c.args.most c.args.text.now c.requires c.in-Ok.n n (omega arith) c.in-Ok.ensures.value.0 c.if-n-most.false is
