-- What was taken so far is a front of the line, and nothing waits.
use Rattle.std.proofs.Common.{◌-◌, length}
use Rattle.qs_script.specs.Cuts.{longest_line}
use Rattle.qs_stream.specs.Flows.{flow}
use Rattle.qs_replay.proofs.Coming.{Sought}
use Rattle.qs_replay.proofs.lines.find_line.Given as goal

abbrev pub invariant-pieces : goal.invariant-pieces
invariant-pieces g l =
    Sought (flow g.I.Source.left g.I.Source.read_faults g.O.Sink.sent g.O.Sink.write_faults l.fn.input l.fn.output l.fn.stream)
    l.cutter
    (flow g.I.Source.left g.I.Source.read_faults g.O.Sink.sent g.O.Sink.write_faults l.input l.output l.stream)

abbrev pub decreases-pieces : goal.decreases-pieces
decreases-pieces g l = longest_line - length l.cutter
