-- The words up to one that isn't understood.
use Rattle.std.proofs.Common.{ap, sym, ◌∙◌}
use Rattle.std.proofs.lemmas.Option.{none-some}
use Rattle.std.specs.Prelude.{Some}
use Rattle.qs_stdio_words.specs.Words.{nothing_read, read}
use Rattle.qs_stdio_words.proofs.FromLeft.{front_with}
use Rattle.qsd_stdio.proofs.stray.stray_word.Goals as goal

pub loop-i-init : goal.loop-i-init
unfolding read
loop-i-init c = ap Some (sym c.new-reading.ensures)

pub loop-i-preserved : goal.loop-i-preserved
loop-i-preserved c =
    front_with c.args.words.now c.loop-i.i c.index-words-i.result nothing_read c.loop-i.reading c.loop-i-test.true c.index-words-i.is c.loop-i.invariant
    ∙ sym c.and_then.ensures ∙ c.in-Some.is

pub returns-in-None-clause-some : goal.returns-in-None-clause-some
returns-in-None-clause-some c = (
  c.loop-i-test.true,
  (c.loop-i.reading, c.loop-i.invariant),
  λ front.
      none-some front.0 (sym (front_with c.args.words.now c.loop-i.i c.index-words-i.result nothing_read c.loop-i.reading c.loop-i-test.true c.index-words-i.is c.loop-i.invariant
      ∙ sym c.and_then.ensures ∙ c.in-None.is) ∙ front.1),
)
