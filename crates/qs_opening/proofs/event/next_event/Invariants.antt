-- What was taken so far brought no event, and all of it was taken.
use Rattle.qs_stream.specs.Flows.{flow}
use Rattle.qs_opening.proofs.Sought.{Sought, need}
use Rattle.qs_opening.proofs.event.next_event.Given as goal

abbrev pub invariant-pieces : goal.invariant-pieces
invariant-pieces g l =
    Sought l.fn.reader l.reader
    (flow g.I.Source.left g.I.Source.read_faults g.O.Sink.sent g.O.Sink.write_faults l.fn.input l.fn.output l.fn.stream)
    (flow g.I.Source.left g.I.Source.read_faults g.O.Sink.sent g.O.Sink.write_faults l.input l.output l.stream)

abbrev pub decreases-pieces : goal.decreases-pieces
decreases-pieces g l = need l.reader.phase
