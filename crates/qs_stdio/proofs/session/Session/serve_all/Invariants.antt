-- So many requests were served, and the next one is awaited.
use Rattle.std.proofs.Common.{◌≡◌, Bool}
use Rattle.qs_single.specs.Resting.{IsResting}
use Rattle.qs_stdio.specs.Scenes.{scene}
use Rattle.qs_stdio.specs.Turns.{between}
use Rattle.qs_stdio.proofs.Serving.{Served}
use Rattle.qs_stdio.proofs.session.Session.serve_all.Given as goal

abbrev pub invariant-loop : goal.invariant-loop
invariant-loop g l = record {
  served : (writable : Bool) → IsResting g.D.Disk.seen 0 writable l.fn.world → Served g.D.Disk.seen 0 writable l.fn.mode.structured
      (scene g.I.Source.left g.I.Source.read_faults g.O.Sink.sent g.O.Sink.write_faults l.fn.input l.fn.output l.fn.self.stream l.fn.world)
      (scene g.I.Source.left g.I.Source.read_faults g.O.Sink.sent g.O.Sink.write_faults l.input l.output l.self.stream l.world)
      l.counter;
  ready : l.self.reader ≡ between l.fn.mode.structured;
}
