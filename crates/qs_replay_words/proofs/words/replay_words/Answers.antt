-- What is told is the command's.
use Rattle.std.proofs.Common.{◌≡◌, IfSome, arith, sym, ◌∙◌, subst, refl}
use Rattle.std.specs.Prelude.{Option, Some, None}
use Rattle.qs_replay_words.specs.Words.{TellsWords, words_of_reading}
use Rattle.qs_replay_words.specs.declared.words.ReplayWords.{ReplayWords as Told}
use Rattle.qs_replay_words.proofs.FromLeft.{goes_first, goes_more, goes_none, none_told, some_told}
use Rattle.qs_replay_words.proofs.words.replay_words.Goals as goal

pub loop-word-init : goal.loop-word-init
loop-word-init c = goes_first c.args.words.now _ c.new-reading.ensures

pub loop-word-preserved : goal.loop-word-preserved
loop-word-preserved c =
    goes_more c.args.words.now c.loop-word.word-index c.word-item.result c.loop-word.reading c.in-Some.next c.loop-word-test.true c.word-item.is
    c.in-Some.ensures.some c.loop-word.invariant

pub returns-in-None-clause-none : goal.returns-in-None-clause-none
returns-in-None-clause-none c = λ e.
    goes_none c.args.words.now c.loop-word.word-index c.word-item.result c.loop-word.reading c.loop-word-test.true c.word-item.is
    (c.in-None.ensures.none refl) c.loop-word.invariant

pub returns-clause-some : goal.returns-clause-some
returns-clause-some c =
    some_told c.args.words.now c.loop-word.word-index c.loop-word.reading c.whole.result (omega (arith, c.loop-word-test.false)) c.loop-word.invariant c.whole.ensures

pub returns-clause-none : goal.returns-clause-none
returns-clause-none c =
    none_told c.args.words.now c.loop-word.word-index c.loop-word.reading c.whole.result (omega (arith, c.loop-word-test.false)) c.loop-word.invariant c.whole.ensures
