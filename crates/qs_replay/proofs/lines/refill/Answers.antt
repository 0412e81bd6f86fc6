-- What waited was written, and then the source was called.
use Rattle.qs_replay.proofs.Coming.{fills_fault, fills_on, never_read, written_on}
use Rattle.qs_replay.proofs.lines.refill.Goals as goal

pub returns-in_err-flush-clause-fills : goal.returns-in_err-flush-clause-fills
returns-in_err-flush-clause-fills g c =
    fills_fault _ _ _ _ _ _ _ c.from_residual.ensures.1 c.requires.empty c.in_err-flush.ensures.puts c.in_err-flush.ensures.tells

pub returns-in_err-flush-clause-written : goal.returns-in_err-flush-clause-written
returns-in_err-flush-clause-written g c = λ failed.
    never_read _ _ c.args.stream.now _ c.requires.ongoing c.in_err-flush.ensures.puts c.in_err-flush.ensures.tells failed

pub returns-clause-fills : goal.returns-clause-fills
returns-clause-fills g c = fills_on _ _ _ c.args.stream.now c.flush.new.self _ _ c.in_ok-flush.ensures.puts c.fill.ensures

pub returns-clause-written : goal.returns-clause-written
returns-clause-written g c = λ failed.
    written_on _ _ _ c.args.stream.now c.flush.new.self _ _ c.in_ok-flush.ensures.puts c.in_ok-flush.ensures.tells c.in_ok-flush.ensures.written
    c.fill.ensures
