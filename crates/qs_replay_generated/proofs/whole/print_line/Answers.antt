-- The line was put, and all was written, or a front of it.
use Rattle.qs_stream.specs.Flows.{side}
use Rattle.qs_replay_generated.proofs.Telling.{part_of_line, whole_line}
use Rattle.qs_replay_generated.proofs.whole.print_line.Goals as goal

pub returns-in-Ok-clause-prints : goal.returns-in-Ok-clause-prints
returns-in-Ok-clause-prints g c =
    (whole_line (side g.O.Sink.sent g.O.Sink.write_faults c.args.output.now) (side g.O.Sink.sent g.O.Sink.write_faults c.put.new.output)
    (side g.O.Sink.sent g.O.Sink.write_faults c.flush.new.output) c.args.stream.now c.put.new.self c.flush.new.self c.args.line.now c.requires
    (rw c.as_slice.ensures at c.put.ensures.puts) c.in-Ok.ensures.puts c.in-Ok.ensures.written c.in-Ok.ensures.tells).prints

pub returns-in-Ok-clause-cause : goal.returns-in-Ok-clause-cause
returns-in-Ok-clause-cause g c =
    (whole_line (side g.O.Sink.sent g.O.Sink.write_faults c.args.output.now) (side g.O.Sink.sent g.O.Sink.write_faults c.put.new.output)
    (side g.O.Sink.sent g.O.Sink.write_faults c.flush.new.output) c.args.stream.now c.put.new.self c.flush.new.self c.args.line.now c.requires
    (rw c.as_slice.ensures at c.put.ensures.puts) c.in-Ok.ensures.puts c.in-Ok.ensures.written c.in-Ok.ensures.tells).cause

pub returns-in-Err-clause-prints : goal.returns-in-Err-clause-prints
returns-in-Err-clause-prints g c =
    (part_of_line (side g.O.Sink.sent g.O.Sink.write_faults c.args.output.now) (side g.O.Sink.sent g.O.Sink.write_faults c.put.new.output)
    (side g.O.Sink.sent g.O.Sink.write_faults c.flush.new.output) c.args.stream.now c.put.new.self c.flush.new.self c.args.line.now c.requires
    (rw c.as_slice.ensures at c.put.ensures.puts) c.in-Err.ensures.puts c.in-Err.ensures.tells).prints

pub returns-in-Err-clause-cause : goal.returns-in-Err-clause-cause
returns-in-Err-clause-cause g c =
    (part_of_line (side g.O.Sink.sent g.O.Sink.write_faults c.args.output.now) (side g.O.Sink.sent g.O.Sink.write_faults c.put.new.output)
    (side g.O.Sink.sent g.O.Sink.write_faults c.flush.new.output) c.args.stream.now c.put.new.self c.flush.new.self c.args.line.now c.requires
    (rw c.as_slice.ensures at c.put.ensures.puts) c.in-Err.ensures.puts c.in-Err.ensures.tells).cause
