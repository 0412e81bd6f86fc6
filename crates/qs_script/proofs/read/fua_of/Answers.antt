-- What is left and isn't `fua` is another word, or more.
use Rattle.std.proofs.Common.{sym, ap, ◌∙◌}
use Rattle.qs_script.specs.Lines.{words_left}
use Rattle.qs_script.proofs.Reading.{not_fua}
use Rattle.qs_script.proofs.read.fua_of.Goals as goal

pub returns-in-Some-2-clause-none : goal.returns-in-Some-2-clause-none
returns-in-Some-2-clause-none c = λ e fua is.
    not_fua c.in-Some.text.now (λ same. let told = c.if-is_fua.ensures.1 same in cc) fua (ap words_left (sym c.in-Some.is) ∙ is)
