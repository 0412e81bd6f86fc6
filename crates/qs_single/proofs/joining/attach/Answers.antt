-- The name is one, and means the export.
use Rattle.std.proofs.Common.{arith, refl, sym, subst}
use Rattle.std.specs.Prelude.{Bool, not, List, ℕ, IfSome, codes}
use Rattle.qs_part.specs.declared.graph.ExportInfo.{ExportInfo}
use Rattle.qs_calls.specs.Runs.{Begins}
use Rattle.qs_single.specs.Joining.{Names}
use Rattle.qs_single.specs.Resting.{Attaches}
use Rattle.qs_single.proofs.Attaching.{disk_named}
use Rattle.qs_single.proofs.joining.attach.Goals as goal

pub unreachable-requires : goal.unreachable-requires
unfolding lib.Utf8.encode
unreachable-requires g c = c.in_default.ensures (omega arith, (codes "disk", (refl, refl)))

pub attach_by-requires-clause-named : goal.attach_by-requires-clause-named
unfolding lib.Utf8.encode
attach_by-requires-clause-named g c =
    subst (λ (name : List ℕ). Names c.args.world.now name) (sym c.in-Some.ensures.1) (disk_named g.D.Disk.seen c.requires.0 c.requires.1 c.args.world.now c.requires.2)

pub returns-clause-some : goal.returns-clause-some
unfolding lib.Utf8.encode
returns-clause-some g c =
    subst (λ (name : List ℕ). IfSome c.attach_by.result (λ (info : ExportInfo). (disks : List g.row.D.Denot) (read_only : Bool) → Begins g.D.Disk.seen disks read_only c.args.world.now →
    Attaches g.D.Disk.seen c.args.session (not read_only) c.args.world.now name info c.attach_by.new.world)) c.in-Some.ensures.1 c.attach_by.ensures.some
