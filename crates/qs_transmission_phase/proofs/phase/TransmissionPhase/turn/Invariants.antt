-- The rounds so far.
use Rattle.std.proofs.Common.{◌≡◌, false}
use Rattle.qs_transmission_phase.specs.Serves.{ServesSome, phase_scene}
use Rattle.qs_transmission_phase.proofs.phase.TransmissionPhase.turn.Given as goal

abbrev pub invariant-loop : goal.invariant-loop
invariant-loop g l = record {
  of : g.S.Station.is_of l.hall l.station;
  serves : ServesSome
      (phase_scene g.W.Wire.left g.W.Wire.sent g.W.Wire.read_faults g.W.Wire.write_faults g.W.Wire.waits (g.S.Station.book l.fn.station) l.fn.self)
      (phase_scene g.W.Wire.left g.W.Wire.sent g.W.Wire.read_faults g.W.Wire.write_faults g.W.Wire.waits (g.S.Station.book l.station) l.self);
  shape : l.self.value.crew.shape ≡ l.fn.self.value.crew.shape;
  there : l.self.value.detached ≡ false;
  later : g.S.Station.follows l.fn.station l.station;
}
