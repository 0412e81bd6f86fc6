-- Bytes that are a name.
use Rattle.qs_opening.proofs.Attaching.{joins_named}
use Rattle.qs_opening.proofs.telling.join.Goals as goal

pub returns-in-Some-clause-joins : goal.returns-in-Some-clause-joins
returns-in-Some-clause-joins g c = joins_named g.D.Disk.seen c.args.session c.args.world.now c.join_by.new.world c.join_by.result c.args.name.now _ c.in-Some.is c.join_by.ensures.joins
