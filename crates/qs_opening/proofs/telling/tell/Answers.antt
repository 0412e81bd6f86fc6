-- One who wants to attach.
use Rattle.qs_opening.proofs.Attaching.{changes_attached}
use Rattle.qs_opening.proofs.telling.tell.Goals as goal

pub returns-in-Attach-clause-changes : goal.returns-in-Attach-clause-changes
returns-in-Attach-clause-changes g c = changes_attached g.D.Disk.seen c.args.session c.args.world.now c.join.new.world c.join.result c.args.want.now _ c.in-Attach.is c.join.ensures.joins
