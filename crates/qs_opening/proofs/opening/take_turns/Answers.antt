-- One turn more, or the end.
use Rattle.std.proofs.Common.{ap, sym, subst, not, arith}
use Rattle.qs_nbd_handshake.specs.Phases.{Reader}
use Rattle.qs_calls.specs.Runs.{Begins}
use Rattle.qs_stream.specs.Flows.{flow}
use Rattle.qs_world.specs.Values.{WorldValue}
use Rattle.qs_opening.proofs.Conversing.{conversed_none, conversed_more, converses_end, converses_fault, converses_spent}
use Rattle.qs_opening.proofs.opening.take_turns.Goals as goal

pub loop-init : goal.loop-init
loop-init g c =
    conversed_none (flow g.I.Source.left g.I.Source.read_faults g.O.Sink.sent g.O.Sink.write_faults c.args.input.now c.args.output.now c.args.stream.now)
    c.args.world.now c.args.reader.now c.requires.awaits

pub take_turn-requires-clause-begins : goal.take_turn-requires-clause-begins
take_turn-requires-clause-begins g c =
    (c.requires.begins.0, c.requires.begins.1, subst (λ (w : WorldValue g.row.D.Denot). Begins g.D.Disk.seen c.requires.begins.0 c.requires.begins.1 w) (sym c.loop.invariant.same) c.requires.begins.2)

pub take_turn-requires-clause-awaits : goal.take_turn-requires-clause-awaits
take_turn-requires-clause-awaits g c = ap (λ (r : Reader). r.phase) c.loop.invariant.reader_is

pub returns-in_err-take_turn : goal.returns-in_err-take_turn
returns-in_err-take_turn g c = λ disks read_only begins.
    let begins' = subst (λ (w : WorldValue g.row.D.Denot). Begins g.D.Disk.seen disks read_only w) (sym c.loop.invariant.same) begins in
    converses_fault g.D.Disk.seen c.args.session (not read_only) c.args.reader.now.terms
    (flow g.I.Source.left g.I.Source.read_faults g.O.Sink.sent g.O.Sink.write_faults c.args.input.now c.args.output.now c.args.stream.now)
    (flow g.I.Source.left g.I.Source.read_faults g.O.Sink.sent g.O.Sink.write_faults c.loop.input c.loop.output c.loop.stream)
    (flow g.I.Source.left g.I.Source.read_faults g.O.Sink.sent g.O.Sink.write_faults c.take_turn.new.input c.take_turn.new.output c.take_turn.new.stream)
    c.args.world.now c.loop.world c.take_turn.new.world c.loop.reader c.take_turn.new.reader c.loop.counter c.loop.invariant c.args.budget _ c.from_residual.result _ c.from_residual.ensures.1
    (c.in_err-take_turn.ensures disks read_only begins')

pub returns-in-Over : goal.returns-in-Over
returns-in-Over g c = λ disks read_only begins.
    let begins' = subst (λ (w : WorldValue g.row.D.Denot). Begins g.D.Disk.seen disks read_only w) (sym c.loop.invariant.same) begins in
    converses_end g.D.Disk.seen c.args.session (not read_only) c.args.reader.now.terms
    (flow g.I.Source.left g.I.Source.read_faults g.O.Sink.sent g.O.Sink.write_faults c.args.input.now c.args.output.now c.args.stream.now)
    (flow g.I.Source.left g.I.Source.read_faults g.O.Sink.sent g.O.Sink.write_faults c.loop.input c.loop.output c.loop.stream)
    (flow g.I.Source.left g.I.Source.read_faults g.O.Sink.sent g.O.Sink.write_faults c.take_turn.new.input c.take_turn.new.output c.take_turn.new.stream)
    c.args.world.now c.loop.world c.take_turn.new.world c.loop.reader c.take_turn.new.reader c.loop.counter c.loop.invariant c.args.budget _ c.in-Over.opened c.in-Over.is
    (c.in_ok-take_turn.ensures disks read_only begins')

pub loop-preserved : goal.loop-preserved
loop-preserved g c =
    let begins' = subst (λ (w : WorldValue g.row.D.Denot). Begins g.D.Disk.seen c.requires.begins.0 c.requires.begins.1 w) (sym c.loop.invariant.same) c.requires.begins.2 in
    conversed_more g.D.Disk.seen c.args.session (not c.requires.begins.1) c.args.reader.now.terms
    (flow g.I.Source.left g.I.Source.read_faults g.O.Sink.sent g.O.Sink.write_faults c.args.input.now c.args.output.now c.args.stream.now)
    (flow g.I.Source.left g.I.Source.read_faults g.O.Sink.sent g.O.Sink.write_faults c.loop.input c.loop.output c.loop.stream)
    (flow g.I.Source.left g.I.Source.read_faults g.O.Sink.sent g.O.Sink.write_faults c.take_turn.new.input c.take_turn.new.output c.take_turn.new.stream)
    c.args.world.now c.loop.world c.take_turn.new.world c.loop.reader c.take_turn.new.reader c.loop.counter c.loop.invariant _ c.in-Stays.is
    (c.in_ok-take_turn.ensures c.requires.begins.0 c.requires.begins.1 begins')

pub returns : goal.returns
returns g c = λ disks read_only begins.
    converses_spent g.D.Disk.seen c.args.session (not read_only) c.args.reader.now.terms
    (flow g.I.Source.left g.I.Source.read_faults g.O.Sink.sent g.O.Sink.write_faults c.args.input.now c.args.output.now c.args.stream.now)
    (flow g.I.Source.left g.I.Source.read_faults g.O.Sink.sent g.O.Sink.write_faults c.loop.input c.loop.output c.loop.stream)
    c.args.world.now c.loop.world c.loop.reader c.loop.counter c.args.budget c.loop.invariant (omega arith)
