use Rattle.std.proofs.Common.{◌∙◌}
use Rattle.qs_host.proofs.UntoldRuns.{loads-all}
use Rattle.qs_host.proofs.file_disk.FileDiskDisk.load_run.Goals as goal

pub returns-in-Ok-clause-loads : goal.returns-in-Ok-clause-loads
returns-in-Ok-clause-loads g c =
    let d = c.args.self.now in
    loads-all d.stripe d.align d.length d.faults.count c.args.b c.args.n c.read_exact_at.new.buf (c.read_exact_at.auto.buf ∙ c.requires.whole)
