-- One round more.
use Rattle.std.proofs.Common.{refl, ◌∙◌}
use Rattle.qs_transmission_phase.proofs.Reading.{some_none}
use Rattle.qs_transmission_phase.proofs.Turning.{turn_ends, turn_goes}
use Rattle.qs_transmission_phase.proofs.phase.TransmissionPhase.turn.Goals as goal

pub loop-init : goal.loop-init
loop-init g c = record {
  of = c.requires.of;
  serves = some_none _;
  shape = refl;
  there = c.requires.there;
  later = g.met.S.Station.follows_self c.args.station.now;
}

pub loop-preserved : goal.loop-preserved
loop-preserved g c = record {
  of = c.round.ensures.of;
  serves = turn_goes _ _ _ c.loop.invariant.serves c.in-None-round.ensures.rounds;
  shape = c.round.ensures.shape ∙ c.loop.invariant.shape;
  there = c.in-None-round.ensures.there refl;
  later = g.met.S.Station.follows_on _ _ _ c.loop.invariant.later c.round.ensures.later;
}

pub returns-in-Some-round-clause-turns : goal.returns-in-Some-round-clause-turns
returns-in-Some-round-clause-turns g c = turn_ends _ _ _ c.in-Some-round.turned c.loop.invariant.serves c.in-Some-round.ensures.rounds
