-- The station is of its hall.
use Rattle.qs_session_trials.proofs.drive.greet.Given as goal

abbrev pub invariant-loop : goal.invariant-loop
invariant-loop g l = g.S.Station.is_of l.hall l.station
