use Rattle.std.proofs.Common.{refl}
use Rattle.qs_shared.proofs.Wholes.{after_group}
use Rattle.qs_shared.proofs.shared.Shared+D.call_group.Goals as goal

pub returns-clause-of : goal.returns-clause-of
returns-clause-of g c =
    (after_group g.D.Disk.seen c.args.self.now c.args.pass.now _ c.deref.result.now c.args.place c.args.request c.args.op c.call_at.result c.requires.of refl c.deref.ensures.value c.call_at.ensures.turns c.call_at.ensures.called).0

pub returns-clause-later : goal.returns-clause-later
returns-clause-later g c =
    (after_group g.D.Disk.seen c.args.self.now c.args.pass.now _ c.deref.result.now c.args.place c.args.request c.args.op c.call_at.result c.requires.of refl c.deref.ensures.value c.call_at.ensures.turns c.call_at.ensures.called).1
