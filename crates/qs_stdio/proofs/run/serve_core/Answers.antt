-- By the words, with a handshake or without one.
use Rattle.std.proofs.Common.{◌^◌, Bool, sym, subst}
use Rattle.qs_stream.specs.Flows.{side}
use Rattle.qs_stdio.specs.Runs.{ServesStream}
use Rattle.qs_stdio.proofs.run.serve_core.Goals as goal

pub returns-then-told : goal.returns-then-told
returns-then-told g c = λ disks read_only begins.
    subst (λ (b : Bool). ServesStream g.D.Disk.seen disks read_only b (2 ^ 32)
    (side g.I.Source.left g.I.Source.read_faults c.args.input.now) (side g.O.Sink.sent g.O.Sink.write_faults c.args.output.now) c.args.world.now c.serve_stream.result
    (side g.I.Source.left g.I.Source.read_faults c.serve_stream.new.input) (side g.O.Sink.sent g.O.Sink.write_faults c.serve_stream.new.output) c.serve_stream.new.world)
    (sym c.if-told.true) (c.serve_stream.ensures disks read_only begins)

pub returns : goal.returns
returns g c = λ disks read_only begins.
    subst (λ (b : Bool). ServesStream g.D.Disk.seen disks read_only b (2 ^ 32)
    (side g.I.Source.left g.I.Source.read_faults c.args.input.now) (side g.O.Sink.sent g.O.Sink.write_faults c.args.output.now) c.args.world.now c.serve_client.result
    (side g.I.Source.left g.I.Source.read_faults c.serve_client.new.input) (side g.O.Sink.sent g.O.Sink.write_faults c.serve_client.new.output) c.serve_client.new.world)
    (sym c.if-told.false) (c.serve_client.ensures disks read_only begins)
