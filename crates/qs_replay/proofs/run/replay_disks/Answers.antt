-- What was replayed against the core.
use Rattle.std.proofs.Common.{List, ap, false, subst}
use Rattle.qs_stream.specs.Flows.{Side, side}
use Rattle.qs_calls.specs.Runs.{Begins}
use Rattle.qs_replay.specs.Scripts.{scene}
use Rattle.qs_replay.proofs.Running.{is_replayed, opening_of, replays_from}
use Rattle.qs_replay.proofs.run.replay_disks.Goals as goal

pub returns-clause-opening : goal.returns-clause-opening
returns-clause-opening g c =
    let input : Side = side g.I.Source.left g.I.Source.read_faults c.args.input.now in
    let output : Side = side g.O.Sink.sent g.O.Sink.write_faults c.args.output.now in
    opening_of g.D.Disk.seen c.args.disks.now.items c.into_disks.result.items _ _ _ _ c.replay-status.result
    (is_replayed g.D.Disk.seen c.args.disks.now.items c.into_disks.result.items input output c.replay-status.result c.in-Ok-open_core.world
    (scene g.I.Source.left g.I.Source.read_faults g.O.Sink.sent g.O.Sink.write_faults c.replay-status.new.input c.replay-status.new.output
    c.replay-status.new.stream c.replay-status.new.desk.world c.replay-status.new.desk.table)
    (subst (λ (disks : List _). Begins g.D.Disk.seen disks false c.in-Ok-open_core.world) (ap (λ v. v.items) c.replace-taken.ensures.value) c.in-Ok-open_core.ensures)
    (replays_from g.D.Disk.seen input output c.in-Ok-new.stream c.in-Ok-open_core.world c.new-4.result _ c.replay-status.result _
    c.in-Ok-new.ensures c.new-4.ensures c.replay-status.ensures)
    c.into_disks.ensures)
