-- The requests up to a number were polled.
use Rattle.qs_transmission_phase.specs.Serves.{IsInPlace, PollsUpTo, phase_scene}
use Rattle.qs_transmission_phase.proofs.phase.TransmissionPhase.poll_each.Given as goal

abbrev pub invariant-loop : goal.invariant-loop
invariant-loop g l = record {
  of : g.S.Station.is_of l.hall l.station;
  polls : PollsUpTo l.polled l.wait
      (phase_scene g.W.Wire.left g.W.Wire.sent g.W.Wire.read_faults g.W.Wire.write_faults g.W.Wire.waits (g.S.Station.book l.fn.station) l.fn.self)
      (phase_scene g.W.Wire.left g.W.Wire.sent g.W.Wire.read_faults g.W.Wire.write_faults g.W.Wire.waits (g.S.Station.book l.station) l.self);
  place : IsInPlace l.fn.self.value l.self.value;
  later : g.S.Station.follows l.fn.station l.station;
}
