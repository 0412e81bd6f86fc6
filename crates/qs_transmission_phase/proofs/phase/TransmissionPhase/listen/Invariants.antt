-- What was read so far.
use Rattle.std.proofs.Common.{◌≤◌}
use Rattle.qs_task.specs.Books.{Book}
use Rattle.qs_transmission_phase.specs.Serves.{IsInPlace, ServesSome, phase_scene}
use Rattle.qs_transmission_phase.proofs.phase.TransmissionPhase.listen.Given as goal

abbrev pub invariant-loop : goal.invariant-loop
invariant-loop g l = record {
  serves : (book : Book) → ServesSome
      (phase_scene g.W.Wire.left g.W.Wire.sent g.W.Wire.read_faults g.W.Wire.write_faults g.W.Wire.waits book l.fn.self)
      (phase_scene g.W.Wire.left g.W.Wire.sent g.W.Wire.read_faults g.W.Wire.write_faults g.W.Wire.waits book l.self);
  place : IsInPlace l.fn.self.value l.self.value;
  later : g.W.Wire.waits l.fn.self.stream.wire ≤ g.W.Wire.waits l.self.stream.wire;
}
