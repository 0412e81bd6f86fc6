-- Where memory was refused, pairs of digits have their bytes all the same.
use Rattle.std.proofs.Common.{arith, refl}
use Rattle.hex.proofs.HexLemmas.{decode_of-digits, decode_of-ok}
use Rattle.qs_script.proofs.data.pairs.Goals as goal

pub returns-then-are_pairs-clause-fault : goal.returns-then-are_pairs-clause-fault
returns-then-are_pairs-clause-fault c =
    let digits = c.if-are_pairs.ensures.0 refl in
    let decoded = decode_of-digits c.args.word.now digits.0 digits.1 in
    let twice = (decode_of-ok c.args.word.now decoded.0 decoded.1).2 in
    (decoded.0, (decoded.1, omega arith))

pub returns-else-are_pairs-clause-fault : goal.returns-else-are_pairs-clause-fault
returns-else-are_pairs-clause-fault c = λ bytes is.
    let digits = decode_of-ok c.args.word.now bytes is in
    let told = c.if-are_pairs.ensures.1 (digits.0, digits.1) in
    cc
