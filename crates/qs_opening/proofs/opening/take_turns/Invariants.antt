-- So many options were answered, and the next one is awaited.
use Rattle.qs_stream.specs.Flows.{flow}
use Rattle.qs_opening.proofs.Conversing.{Conversed}
use Rattle.qs_opening.proofs.opening.take_turns.Given as goal

abbrev pub invariant-loop : goal.invariant-loop
invariant-loop g l =
    Conversed l.fn.reader.terms
    (flow g.I.Source.left g.I.Source.read_faults g.O.Sink.sent g.O.Sink.write_faults l.fn.input l.fn.output l.fn.stream)
    (flow g.I.Source.left g.I.Source.read_faults g.O.Sink.sent g.O.Sink.write_faults l.input l.output l.stream)
    l.fn.world l.world l.reader l.counter
