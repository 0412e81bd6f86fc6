-- A stream that failed writes nothing.
use Rattle.std.proofs.Common.{[]}
use Rattle.qs_stream.proofs.Calls.{puts_lost}
use Rattle.qs_stream.proofs.stream.Stream.flush.Goals as goal

pub returns-in_err-check-clause-puts : goal.returns-in_err-check-clause-puts
returns-in_err-check-clause-puts g c = puts_lost _ _ [] c.in_err-check.ensures
