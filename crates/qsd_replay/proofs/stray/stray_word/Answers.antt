-- The words up to one that isn't understood.
use Rattle.std.proofs.Common.{refl}
use Rattle.qs_replay_words.specs.Words.{AreRead, nothing_read}
use Rattle.qs_replay_words.proofs.FromLeft.{front_more, front_none}
use Rattle.qsd_replay.proofs.stray.stray_word.Goals as goal

pub loop-i-init : goal.loop-i-init
unfolding AreRead
loop-i-init c = c.new-reading.ensures

pub loop-i-preserved : goal.loop-i-preserved
loop-i-preserved c =
    front_more c.args.words.now c.loop-i.i c.index-words-i.result nothing_read c.loop-i.reading c.in-Some.next c.loop-i-test.true c.index-words-i.is
    c.loop-i.invariant c.in-Some.ensures.some

pub returns-in-None-clause-some : goal.returns-in-None-clause-some
returns-in-None-clause-some c = (
  c.loop-i-test.true,
  (c.loop-i.reading, c.loop-i.invariant),
  front_none c.args.words.now c.loop-i.i c.index-words-i.result c.loop-i.reading c.loop-i-test.true c.index-words-i.is c.loop-i.invariant
      (c.in-None.ensures.none refl),
)
