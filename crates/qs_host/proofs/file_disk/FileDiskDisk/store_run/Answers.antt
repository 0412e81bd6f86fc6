use Rattle.qs_host.proofs.UntoldRuns.{stores-all}
use Rattle.qs_host.proofs.file_disk.FileDiskDisk.store_run.Goals as goal

pub returns-in-Ok-clause-stores : goal.returns-in-Ok-clause-stores
returns-in-Ok-clause-stores g c =
    let d = c.args.self.now in
    stores-all d.stripe d.align d.length d.faults.count c.args.b c.args.n c.args.bytes.now
