-- The turns so far.
use Rattle.std.proofs.Common.{◌≡◌, false}
use Rattle.qs_transmission_phase.specs.Serves.{ServesSome, link_scene}
use Rattle.qs_transmission_phase.proofs.serve.TransmissionPhase+PatientLink+L.serve.Given as goal

abbrev pub invariant-loop : goal.invariant-loop
invariant-loop g l = record {
  of : g.S.Station.is_of l.hall l.station;
  serves : ServesSome
      (link_scene g.L.Source.left g.L.Sink.sent g.L.Source.read_faults g.L.Sink.write_faults (g.S.Station.book l.fn.station) l.fn.self)
      (link_scene g.L.Source.left g.L.Sink.sent g.L.Source.read_faults g.L.Sink.write_faults (g.S.Station.book l.station) l.self);
  shape : l.self.value.crew.shape ≡ g.S.Station.shape l.hall;
  there : l.self.value.detached ≡ false;
  later : g.S.Station.follows l.fn.station l.station;
}
