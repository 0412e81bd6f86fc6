-- A failure was planned.
use Rattle.std.proofs.Common.{refl}
use Rattle.qs_replay_lines.proofs.Cutting.{plan_played}
use Rattle.qs_replay_lines.proofs.desk.Desk.plan.Goals as goal

pub returns : goal.returns
returns g c =
    plan_played g.D.Disk.seen c.args.self.now c.args.stripe c.args.kind (record { world = c.plan.new.self; table = c.args.self.now.table; out = c.args.self.now.out; alloc = c.args.self.now.alloc })
    c.plan.ensures refl refl c.quiet.result c.quiet.ensures
