-- So many lines were done, and nothing waits at the desk.
use Rattle.std.proofs.Common.{◌≡◌, []}
use Rattle.qs_replay.specs.Scripts.{SoFar, scene}
use Rattle.qs_replay.proofs.replay.replay.Given as goal

abbrev pub invariant-loop-n : goal.invariant-loop-n
invariant-loop-n g l = record {
  so_far : SoFar g.D.Disk.seen
      (scene g.I.Source.left g.I.Source.read_faults g.O.Sink.sent g.O.Sink.write_faults l.fn.input l.fn.output l.fn.stream l.fn.desk.world l.fn.desk.table)
      l.n
      (scene g.I.Source.left g.I.Source.read_faults g.O.Sink.sent g.O.Sink.write_faults l.input l.output l.stream l.desk.world l.desk.table);
  empty : l.desk.out ≡ [];
}
