-- The words of a text, at its first space.
use Rattle.std.proofs.Common.{◌+◌, add-one}
use Rattle.std.proofs.lemmas.List.{take_rest}
use Rattle.qs_script.proofs.Splitting.{split_first, split_none}
use Rattle.qs_script.proofs.find.cut_word.Goals as goal

pub returns-in-Some : goal.returns-in-Some
returns-in-Some c =
    rw (take_rest c.args.text.now (c.in-Some.at + 1), add-one) (split_first c.args.text.now c.in-Some.at c.in-Some.ensures)

pub returns-in-None : goal.returns-in-None
returns-in-None c = split_none c.args.text.now c.in-None.ensures
