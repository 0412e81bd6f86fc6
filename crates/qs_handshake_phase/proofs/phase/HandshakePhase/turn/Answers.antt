-- One round more.
use Rattle.qs_handshake_phase.proofs.Running.{some_none, some_on}
use Rattle.qs_handshake_phase.proofs.Turning.{rounds_on, some_of, turn_over, turn_waits}
use Rattle.qs_handshake_phase.proofs.phase.HandshakePhase.turn.Goals as goal

pub loop-init : goal.loop-init
loop-init g c = record {
  of = c.requires.of;
  greets = some_none _;
  later = g.met.S.Station.follows_self c.args.station.now;
}

pub loop-preserved : goal.loop-preserved
loop-preserved g c = record {
  of = c.round.ensures.of;
  greets = some_on _ _ _ c.loop.invariant.greets (some_of _ _ _ c.in-Goes.ensures.rounds);
  later = g.met.S.Station.follows_on _ _ _ c.loop.invariant.later c.round.ensures.later;
}

pub returns-in-Waits-clause-turns : goal.returns-in-Waits-clause-turns
returns-in-Waits-clause-turns g c = turn_waits _ _ (rounds_on _ _ _ _ c.loop.invariant.greets c.in-Waits.ensures.rounds)

pub returns-in-Over-clause-turns : goal.returns-in-Over-clause-turns
returns-in-Over-clause-turns g c = turn_over _ _ c.in-Over.end (rounds_on _ _ _ _ c.loop.invariant.greets c.in-Over.ensures.rounds)
