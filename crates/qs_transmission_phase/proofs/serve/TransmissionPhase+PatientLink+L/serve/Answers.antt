-- One turn more.
use Rattle.std.proofs.Common.{ap, ◌∙◌}
use Rattle.qs_serving.specs.Scenes.{ServingScene}
use Rattle.qs_transmission_phase.proofs.Reading.{some_none}
use Rattle.qs_transmission_phase.proofs.Turning.{serve_ends, serve_goes}
use Rattle.qs_transmission_phase.proofs.serve.TransmissionPhase+PatientLink+L.serve.Goals as goal

pub loop-init : goal.loop-init
loop-init g c = record {
  of = c.requires.of;
  serves = some_none _;
  shape = c.requires.shape;
  there = c.requires.there;
  later = g.met.S.Station.follows_self c.args.station.now;
}

pub turn-requires-clause-of : goal.turn-requires-clause-of
turn-requires-clause-of g c = c.loop.invariant.of

pub turn-requires-clause-shape : goal.turn-requires-clause-shape
turn-requires-clause-shape g c =
    ap (λ (s : ServingScene). s.value.crew.shape) (c.prepare.ensures (g.S.Station.book c.loop.station)) ∙ c.loop.invariant.shape

pub turn-requires-clause-there : goal.turn-requires-clause-there
turn-requires-clause-there g c =
    ap (λ (s : ServingScene). s.value.detached) (c.prepare.ensures (g.S.Station.book c.loop.station)) ∙ c.loop.invariant.there

pub returns-in-Ended-clause-serves : goal.returns-in-Ended-clause-serves
returns-in-Ended-clause-serves g c =
    serve_ends _ _ _ _ c.in-Ended.end c.loop.invariant.serves (c.prepare.ensures (g.S.Station.book c.loop.station)) c.in-Ended.ensures.turns

pub returns-in-Ended-clause-later : goal.returns-in-Ended-clause-later
returns-in-Ended-clause-later g c = g.met.S.Station.follows_on _ _ _ c.loop.invariant.later c.turn.ensures.later

pub loop-preserved : goal.loop-preserved
loop-preserved g c = record {
  of = c.turn.ensures.of;
  serves = serve_goes _ _ _ _ c.in-Pending.field-0 c.loop.invariant.serves (c.prepare.ensures (g.S.Station.book c.loop.station))
      c.in-Pending.ensures.turns;
  shape = c.turn.ensures.shape ∙ ap (λ (s : ServingScene). s.value.crew.shape) (c.prepare.ensures (g.S.Station.book c.loop.station))
      ∙ c.loop.invariant.shape;
  there = c.in-Pending.ensures.turns.leaves.there;
  later = g.met.S.Station.follows_on _ _ _ c.loop.invariant.later c.turn.ensures.later;
}
