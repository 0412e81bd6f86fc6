-- The rounds so far.
use Rattle.qs_handshake_phase.specs.Scenes.{GreetsSome, greeting_scene}
use Rattle.qs_handshake_phase.proofs.phase.HandshakePhase.turn.Given as goal

abbrev pub invariant-loop : goal.invariant-loop
invariant-loop g l = record {
  of : g.S.Station.is_of l.hall l.station;
  greets : GreetsSome
      (greeting_scene g.W.Wire.left g.W.Wire.sent g.W.Wire.read_faults g.W.Wire.write_faults g.W.Wire.waits (g.S.Station.book l.fn.station) l.fn.self)
      (greeting_scene g.W.Wire.left g.W.Wire.sent g.W.Wire.read_faults g.W.Wire.write_faults g.W.Wire.waits (g.S.Station.book l.station) l.self);
  later : g.S.Station.follows l.fn.station l.station;
}
