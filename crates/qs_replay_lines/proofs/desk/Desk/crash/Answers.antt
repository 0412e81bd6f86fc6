-- The export's name is a name, none stands behind a crash, and it may be written where the file may.
use Rattle.std.proofs.Common.{◌≡◌, ◌&&◌, Bool, false, not, ap, arith, refl, subst}
use Rattle.std.specs.Prelude.{codes}
use Rattle.qs_world.proofs.Crashes.{crashed_without}
use Rattle.qs_replay_lines.proofs.Cutting.{crash_cut, crash_played, permitted}
use Rattle.qs_replay_lines.proofs.desk.Desk.crash.Goals as goal

pub unreachable-requires : goal.unreachable-requires
unfolding lib.Utf8.encode
unreachable-requires g c = c.in_default.ensures (omega arith, (codes "disk", (refl, refl)))

pub export_disk-requires-clause-none : goal.export_disk-requires-clause-none
export_disk-requires-clause-none g c = crashed_without _ _ _ _ c.crash.ensures

pub export_disk-requires-clause-permitted : goal.export_disk-requires-clause-permitted
export_disk-requires-clause-permitted g c =
    subst (λ (b : Bool). (not c.is_read_only-writable.result && b) ≡ false) c.is_read_only-writable.ensures (permitted c.is_read_only-writable.result)

pub returns-in-Ok : goal.returns-in-Ok
unfolding lib.Utf8.encode
returns-in-Ok g c =
    crash_played g.D.Disk.seen c.args.self.now c.args.choice.now
    (record { world = c.export_disk.new.self; table = c.args.self.now.table; out = c.args.self.now.out; alloc = c.args.self.now.alloc })
    c.crash.new.self c.in-Some.export (not c.is_read_only-writable.result) c.crash.ensures c.in-Some.ensures.1 (ap not c.is_read_only-writable.ensures) c.in-Ok.ensures refl refl c.quiet.result c.quiet.ensures

pub returns-in-Err : goal.returns-in-Err
returns-in-Err g c =
    crash_cut g.D.Disk.seen c.args.self.now c.args.choice.now
    (record { world = c.export_disk.new.self; table = c.args.self.now.table; out = c.args.self.now.out; alloc = c.args.self.now.alloc })
    c.crash.new.self c.crash.ensures c.in-Err.ensures refl
