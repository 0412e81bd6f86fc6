-- The disks come back as the session left them.
use Rattle.std.proofs.Common.{List, ap, subst}
use Rattle.qs_stream.specs.Flows.{side}
use Rattle.qs_calls.specs.Runs.{Begins}
use Rattle.qs_stdio.proofs.Running.{serves_of}
use Rattle.qs_stdio.proofs.run.serve_disks.Goals as goal

pub returns : goal.returns
returns g c =
    let seen = g.D.Disk.seen in
    let begins = subst (λ (ds : List _). Begins seen ds c.args.told.now.read_only c.in-Ok.world) (ap (λ v. v.items) c.replace-taken.ensures.value) c.in-Ok.ensures in
    serves_of seen c.args.disks.now.items c.args.told.now
    (side g.I.Source.left g.I.Source.read_faults c.args.input.now) (side g.O.Sink.sent g.O.Sink.write_faults c.args.output.now) c.in-Ok.world c.serve_core-status.result
    (side g.I.Source.left g.I.Source.read_faults c.serve_core-status.new.input) (side g.O.Sink.sent g.O.Sink.write_faults c.serve_core-status.new.output)
    c.serve_core-status.new.world c.into_disks.result.items begins (c.serve_core-status.ensures c.args.disks.now.items c.args.told.now.read_only begins) c.into_disks.ensures
