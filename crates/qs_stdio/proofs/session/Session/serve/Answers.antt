-- The stream failed.
use Rattle.std.proofs.Common.{sym, subst}
use Rattle.qs_status.specs.declared.status.Status.{Status}
use Rattle.qs_stdio.specs.Runs.{Sitting}
use Rattle.qs_stdio.specs.Scenes.{scene}
use Rattle.qs_stdio.proofs.session.Session.serve.Goals as goal

pub returns-in-Err : goal.returns-in-Err
returns-in-Err g c = λ writable rests.
    subst (λ (s : Status). Sitting g.D.Disk.seen 0 writable c.args.mode.now.structured c.args.budget
    (scene g.I.Source.left g.I.Source.read_faults g.O.Sink.sent g.O.Sink.write_faults c.args.input.now c.args.output.now c.args.self.now.stream c.args.world.now)
    (scene g.I.Source.left g.I.Source.read_faults g.O.Sink.sent g.O.Sink.write_faults c.serve_all.new.input c.serve_all.new.output c.serve_all.new.self.stream c.serve_all.new.world)
    s)
    (sym c.fault.ensures) (c.in-Err.ensures writable rests)
