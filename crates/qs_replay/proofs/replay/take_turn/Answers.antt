-- What the line made of the scene.
use Rattle.qs_stream.specs.Flows.{Flow, flow}
use Rattle.qs_replay.proofs.Turning.{turn_end, turn_fault, turn_goes, turn_last, turn_long}
use Rattle.qs_replay.proofs.replay.take_turn.Goals as goal

pub returns-in-Ok-clause-turns : goal.returns-in-Ok-clause-turns
returns-in-Ok-clause-turns g c =
    let mid : Flow = flow g.I.Source.left g.I.Source.read_faults g.O.Sink.sent g.O.Sink.write_faults c.next_line.new.input c.next_line.new.output c.next_line.new.stream in
    turn_goes g.D.Disk.seen _ mid c.args.desk.now c.do_line.new.desk _ c.do_line.new.stream c.next_line.new.cutter
    (rw c.in-Ok-Line.field-0-is at c.in-Ok-Line.ensures) (rw c.line.ensures at c.in-Ok.ensures.puts)

pub returns-in-Ok-do_line-clause-turns : goal.returns-in-Ok-do_line-clause-turns
returns-in-Ok-do_line-clause-turns g c =
    let mid : Flow = flow g.I.Source.left g.I.Source.read_faults g.O.Sink.sent g.O.Sink.write_faults c.next_line.new.input c.next_line.new.output c.next_line.new.stream in
    turn_last g.D.Disk.seen _ mid c.args.desk.now c.do_line-in-Ok-Last.new.desk _ c.do_line-in-Ok-Last.new.stream c.next_line.new.cutter
    (rw c.in-Ok-Last.field-0-is at c.in-Ok-Last.ensures) (rw c.line-in-Ok-Last.ensures at c.in-Ok-do_line.ensures.puts)

pub returns-in-Ok-End-clause-turns : goal.returns-in-Ok-End-clause-turns
returns-in-Ok-End-clause-turns g c =
    let mid : Flow = flow g.I.Source.left g.I.Source.read_faults g.O.Sink.sent g.O.Sink.write_faults c.next_line.new.input c.next_line.new.output c.next_line.new.stream in
    turn_end g.D.Disk.seen _ mid c.args.desk.now.world c.args.desk.now.table c.next_line.new.cutter
    (rw c.in-Ok-End.field-0-is at c.in-Ok-End.ensures)

pub returns-in-Ok-TooLong-clause-turns : goal.returns-in-Ok-TooLong-clause-turns
returns-in-Ok-TooLong-clause-turns g c =
    let mid : Flow = flow g.I.Source.left g.I.Source.read_faults g.O.Sink.sent g.O.Sink.write_faults c.next_line.new.input c.next_line.new.output c.next_line.new.stream in
    turn_long g.D.Disk.seen _ mid c.args.desk.now.world c.args.desk.now.table c.next_line.new.cutter
    (rw c.in-Ok-TooLong.field-0-is at c.in-Ok-TooLong.ensures)

pub returns-in-Err-clause-turns : goal.returns-in-Err-clause-turns
returns-in-Err-clause-turns g c =
    let mid : Flow = flow g.I.Source.left g.I.Source.read_faults g.O.Sink.sent g.O.Sink.write_faults c.next_line.new.input c.next_line.new.output c.next_line.new.stream in
    turn_fault g.D.Disk.seen _ mid c.args.desk.now.world c.args.desk.now.table c.next_line.new.cutter
    c.in-Err.field-0 c.fault.result c.fault.ensures c.in-Err.ensures
