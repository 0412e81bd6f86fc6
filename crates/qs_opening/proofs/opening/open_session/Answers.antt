-- The greeting was put, and then flags and options came, or not.
use Rattle.std.proofs.Common.{not, ◌∙◌}
use Rattle.qs_outside.specs.declared.stream.Failed.{Failed}
use Rattle.qs_stream.specs.Flows.{flow, side}
use Rattle.qs_opening.proofs.Beginning.{greeted_by, knows, opens_fault, opens_on, opens_without}
use Rattle.qs_opening.proofs.opening.open_session.Goals as goal

pub returns-in_err-status : goal.returns-in_err-status
returns-in_err-status g c = λ disks read_only begins.
    opens_fault g.D.Disk.seen c.args.session (not read_only) c.args.budget
    (flow g.I.Source.left g.I.Source.read_faults g.O.Sink.sent g.O.Sink.write_faults c.args.input.now c.args.output.now c.args.stream.now)
    (flow g.I.Source.left g.I.Source.read_faults g.O.Sink.sent g.O.Sink.write_faults c.args.input.now c.put.new.output c.put.new.self)
    c.args.world.now c.read_flags.new.reader
    (flow g.I.Source.left g.I.Source.read_faults g.O.Sink.sent g.O.Sink.write_faults c.read_flags.new.input c.read_flags.new.output c.read_flags.new.stream)
    (greeted_by c.as_slice.result.now (side g.I.Source.left g.I.Source.read_faults c.args.input.now) (side g.O.Sink.sent g.O.Sink.write_faults c.args.output.now) c.args.stream.now
    (side g.O.Sink.sent g.O.Sink.write_faults c.put.new.output) c.put.new.self (c.as_slice.ensures ∙ c.greeting.ensures) c.put.ensures.puts) _ c.from_residual.result _ c.from_residual.ensures.1 c.in_err-status.ensures

pub returns-in-Some : goal.returns-in-Some
returns-in-Some g c = λ disks read_only begins.
    opens_without g.D.Disk.seen c.args.session (not read_only) c.args.budget
    (flow g.I.Source.left g.I.Source.read_faults g.O.Sink.sent g.O.Sink.write_faults c.args.input.now c.args.output.now c.args.stream.now)
    (flow g.I.Source.left g.I.Source.read_faults g.O.Sink.sent g.O.Sink.write_faults c.args.input.now c.put.new.output c.put.new.self)
    c.args.world.now c.read_flags.new.reader
    (flow g.I.Source.left g.I.Source.read_faults g.O.Sink.sent g.O.Sink.write_faults c.read_flags.new.input c.read_flags.new.output c.read_flags.new.stream)
    (greeted_by c.as_slice.result.now (side g.I.Source.left g.I.Source.read_faults c.args.input.now) (side g.O.Sink.sent g.O.Sink.write_faults c.args.output.now) c.args.stream.now
    (side g.O.Sink.sent g.O.Sink.write_faults c.put.new.output) c.put.new.self (c.as_slice.ensures ∙ c.greeting.ensures) c.put.ensures.puts) {E = Failed} c.in_ok-status.field-0 c.in-Some.status c.in-Some.is c.in_ok-status.ensures

pub returns : goal.returns
returns g c = λ disks read_only begins.
    opens_on g.D.Disk.seen c.args.session (not read_only) c.args.budget
    (flow g.I.Source.left g.I.Source.read_faults g.O.Sink.sent g.O.Sink.write_faults c.args.input.now c.args.output.now c.args.stream.now)
    (flow g.I.Source.left g.I.Source.read_faults g.O.Sink.sent g.O.Sink.write_faults c.args.input.now c.put.new.output c.put.new.self)
    c.args.world.now c.read_flags.new.reader
    (flow g.I.Source.left g.I.Source.read_faults g.O.Sink.sent g.O.Sink.write_faults c.read_flags.new.input c.read_flags.new.output c.read_flags.new.stream)
    (greeted_by c.as_slice.result.now (side g.I.Source.left g.I.Source.read_faults c.args.input.now) (side g.O.Sink.sent g.O.Sink.write_faults c.args.output.now) c.args.stream.now
    (side g.O.Sink.sent g.O.Sink.write_faults c.put.new.output) c.put.new.self (c.as_slice.ensures ∙ c.greeting.ensures) c.put.ensures.puts) c.take_turns.result
    (flow g.I.Source.left g.I.Source.read_faults g.O.Sink.sent g.O.Sink.write_faults c.take_turns.new.input c.take_turns.new.output c.take_turns.new.stream)
    c.take_turns.new.world (knows _ c.in_ok-status.field-0 c.read_flags.new.reader _ c.in-None.is c.in_ok-status.ensures) (c.take_turns.ensures disks read_only begins)
