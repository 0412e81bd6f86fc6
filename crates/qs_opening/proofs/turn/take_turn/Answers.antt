-- The option was answered, or memory was refused for the answer.
use Rattle.std.proofs.Common.{not}
use Rattle.qs_outside.specs.declared.stream.Failed.{Failed}
use Rattle.qs_nbd_handshake.specs.Phases.{wish_in}
use Rattle.qs_stream.specs.Flows.{flow, side}
use Rattle.qs_opening.proofs.Continuing.{asked_came, asked_wish, turned, turn_starved}
use Rattle.qs_opening.proofs.turn.take_turn.Goals as goal

pub returns-in-Some : goal.returns-in-Some
returns-in-Some g c = λ disks read_only begins.
    let asking = c.in_ok-want.ensures in
    let mid = flow g.I.Source.left g.I.Source.read_faults g.O.Sink.sent g.O.Sink.write_faults c.next_option.new.input c.next_option.new.output c.next_option.new.stream in
    let came = asked_came Failed c.args.reader.now.terms asking.taken _ c.in-Asked.want c.next_option.new.reader mid c.in-Asked.is asking.comes in
    turned g.D.Disk.seen c.args.session (not read_only) c.args.reader.now.terms
    (flow g.I.Source.left g.I.Source.read_faults g.O.Sink.sent g.O.Sink.write_faults c.args.input.now c.args.output.now c.args.stream.now)
    mid c.args.world.now c.answer_option.new.world asking.taken c.next_option.new.reader c.answer_option.new.reader asking.moved came.0
    (side g.O.Sink.sent g.O.Sink.write_faults c.answer_option.new.output) c.answer_option.new.stream c.in-Some.step c.turn_of.result c.turn_of.ensures
    (c.in-Some.ensures (wish_in asking.taken) disks read_only (asked_wish c.args.reader.now.terms asking.taken c.next_option.new.reader came.0) came.1 begins)

pub returns-in-None : goal.returns-in-None
returns-in-None g c = λ disks read_only begins.
    let asking = c.in_ok-want.ensures in
    let mid = flow g.I.Source.left g.I.Source.read_faults g.O.Sink.sent g.O.Sink.write_faults c.next_option.new.input c.next_option.new.output c.next_option.new.stream in
    let came = asked_came Failed c.args.reader.now.terms asking.taken _ c.in-Asked.want c.next_option.new.reader mid c.in-Asked.is asking.comes in
    turn_starved g.D.Disk.seen c.args.session (not read_only) c.args.reader.now.terms
    (flow g.I.Source.left g.I.Source.read_faults g.O.Sink.sent g.O.Sink.write_faults c.args.input.now c.args.output.now c.args.stream.now)
    mid c.args.world.now c.answer_option.new.world asking.taken c.next_option.new.reader c.answer_option.new.reader asking.moved came.0
    (side g.O.Sink.sent g.O.Sink.write_faults c.answer_option.new.output) c.answer_option.new.stream
    (c.in-None.ensures (wish_in asking.taken) disks read_only (asked_wish c.args.reader.now.terms asking.taken c.next_option.new.reader came.0) came.1 begins)
