-- What is told is the command's.
use Rattle.std.proofs.Common.{sym, ◌∙◌, arith}
use Rattle.qs_stdio_words.proofs.FromLeft.{read_all, read_more, read_none}
use Rattle.qs_stdio_words.proofs.words.stdio_words.Goals as goal

pub returns-in-None : goal.returns-in-None
returns-in-None c =
    sym (read_none c.args.words.now c.loop-word.word-index c.word-item.result c.loop-word.reading c.loop-word-test.true c.word-item.is
    (sym c.and_then.ensures ∙ c.in-None.is) c.loop-word.invariant)

pub loop-word-preserved : goal.loop-word-preserved
loop-word-preserved c =
    read_more c.args.words.now c.loop-word.word-index c.word-item.result c.loop-word.reading c.in-Some.next c.loop-word-test.true c.word-item.is
    (sym c.and_then.ensures ∙ c.in-Some.is) c.loop-word.invariant

pub returns : goal.returns
returns c =
    c.whole.ensures
    ∙ sym (read_all c.args.words.now c.loop-word.word-index c.loop-word.reading (omega (arith, c.loop-word-test.false)) c.loop-word.invariant)
