-- The session was attached, or there is no export.
use Rattle.std.proofs.Common.{sym, ◌∙◌, subst, not}
use Rattle.qs_graph.specs.Readings.{info_of}
use Rattle.qs_world.specs.Values.{WorldValue}
use Rattle.qs_single.specs.Resting.{Attaches}
use Rattle.qs_opening.proofs.Attaching.{joined, unjoined}
use Rattle.qs_opening.proofs.telling.join_by.Goals as goal
use Rattle.qs_opening.proofs.telling.join_by.Goals.{then-is_some+in-Some, else-is_some}

pub returns-clause-joins : goal.returns-clause-joins
returns-clause-joins g c = λ disks read_only begins.
    let meant = info_of c.args.world.now.graph c.args.name in
    elim c.if-is_some.branch [
      | then-is_some+in-Some w ↦
          joined g.D.Disk.seen c.args.session c.args.world.now c.if-is_some.world (not read_only) c.args.name c.export_info-info.result meant w.in-Some.field-0
          c.export_info-info.ensures (sym c.is_some.ensures ∙ w.if-is_some.true)
          (subst (λ (v : WorldValue g.row.D.Denot). Attaches g.D.Disk.seen c.args.session (not read_only) c.args.world.now c.args.name w.in-Some.field-0 v) (sym w.world-is)
          (w.in-Some.ensures.some disks read_only begins))
      | else-is_some w ↦
          unjoined g.D.Disk.seen c.args.session c.args.world.now c.if-is_some.world (not read_only) c.args.name c.export_info-info.result meant
          c.export_info-info.ensures (sym c.is_some.ensures ∙ w.if-is_some.false) w.world-is
    ]
