-- What is told is what all words tell.
use Rattle.std.proofs.Common.{arith}
use Rattle.qs_daemon_words.proofs.Lefts.{goes_on, handed_on, tells_fault, tells_whole}
use Rattle.qs_daemon_words.proofs.words.daemon_words.Goals as goal

pub returns-in_err-told : goal.returns-in_err-told
returns-in_err-told c =
    handed_on c.from_residual.result _ _ c.from_residual.ensures.1
    (tells_fault c.args.words.now c.loop-at.at c.loop-at.told _ c.loop-at.invariant.0 c.in_err-told.ensures c.loop-at.invariant.1)

pub loop-at-preserved : goal.loop-at-preserved
loop-at-preserved c =
    (c.loop-at.invariant.0, goes_on c.args.words.now c.loop-at.at c.loop-at.told c.in_ok-told.told _ c.loop-at-test.true c.in_ok-told.ensures c.loop-at.invariant.1)

pub returns : goal.returns
returns c =
    tells_whole c.args.words.now c.loop-at.at c.loop-at.told c.whole.result (omega (arith, c.loop-at-test.false)) c.loop-at.invariant.0 c.loop-at.invariant.1 c.whole.ensures
