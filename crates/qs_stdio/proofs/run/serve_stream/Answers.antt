-- The session was attached, and sat.
use Rattle.std.proofs.Common.{arith, true, false, not, refl, subst}
use Rattle.std.specs.Prelude.{codes}
use Rattle.qs_stream.specs.Buffers.{Buffers}
use Rattle.qs_stream.specs.Flows.{side}
use Rattle.qs_stdio.specs.Runs.{Sitting, opening_scene, last_scene, plain_mode}
use Rattle.qs_stdio.proofs.Running.{sits_of}
use Rattle.qs_stdio.proofs.run.serve_stream.Goals as goal

pub serve-requires-clause-resting : goal.serve-requires-clause-resting
serve-requires-clause-resting g c = (not c.requires.1, (c.in-Some.ensures.some c.requires.0 c.requires.1 c.requires.2).rests)

pub serve-requires-clause-room : goal.serve-requires-clause-room
serve-requires-clause-room g c =
    let attached = c.in-Some.ensures.some c.requires.0 c.requires.1 c.requires.2 in
    omega (arith, attached.next, c.ranges.budget.fits)

pub returns : goal.returns
returns g c = λ disks read_only begins.
    let seen = g.D.Disk.seen in
    let attached = c.in-Some.ensures.some disks read_only begins in
    let input = side g.I.Source.left g.I.Source.read_faults c.args.input.now in
    let output = side g.O.Sink.sent g.O.Sink.write_faults c.args.output.now in
    let input' = side g.I.Source.left g.I.Source.read_faults c.serve.new.input in
    let output' = side g.O.Sink.sent g.O.Sink.write_faults c.serve.new.output in
    sits_of seen disks read_only true c.args.budget input output c.args.world.now c.attach.new.world (codes "disk") c.in-Some.field-0 plain_mode
    (opening_scene input output c.attach.new.world).flow c.serve.result input' output' c.serve.new.self.stream c.serve.new.world
    begins attached (refl, refl, refl)
    (subst (λ (b : Buffers). Sitting seen 0 (not read_only) false c.args.budget (last_scene input output b c.attach.new.world) (last_scene input' output' c.serve.new.self.stream c.serve.new.world) c.serve.result)
    c.in-Ok.ensures.1 (c.serve.ensures (not read_only) attached.rests))
