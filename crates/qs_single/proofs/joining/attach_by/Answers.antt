-- The export that the name means has no client yet.
use Rattle.qs_single.proofs.Attaching.{never_refused, was_attached}
use Rattle.qs_single.proofs.joining.attach_by.Goals as goal

pub unreachable-requires : goal.unreachable-requires
unreachable-requires g c =
    never_refused g.D.Disk.seen c.requires.begins.0 c.requires.begins.1 c.args.world.now c.requires.begins.2 c.args.session c.args.name c.step.result c.step.new.self c.requires.named
    c.step.ensures.step c.step.ensures.next c.step.ensures.cause c.in_default.not-Attached c.in_default.not-Memory

pub returns-in-Attached-clause-some : goal.returns-in-Attached-clause-some
returns-in-Attached-clause-some g c = λ disks read_only begins.
    was_attached g.D.Disk.seen disks read_only c.args.world.now begins c.args.session c.args.name c.in-Attached.info c.step.new.self c.requires.named
    c.in-Attached.ensures.step c.in-Attached.ensures.cause
