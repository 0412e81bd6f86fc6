-- What waits is written before, or both are lost.
use Rattle.qs_stream.proofs.Bytes.{sends_on, sends_lost}
use Rattle.qs_stream.proofs.outbox.send.Goals as goal

pub returns-in_err-flush-clause-sends : goal.returns-in_err-flush-clause-sends
returns-in_err-flush-clause-sends g c = sends_lost _ _ _ c.args.bytes.now _ _ _ _ c.from_residual.ensures.1 c.in_err-flush.ensures.sends

pub returns-clause-sends : goal.returns-clause-sends
returns-clause-sends g c = sends_on _ _ _ _ c.args.bytes.now _ _ _ c.in_ok-flush.ensures.empty c.in_ok-flush.ensures.sends c.write_all.ensures.sends
