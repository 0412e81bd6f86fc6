use Rattle.std.proofs.Common.{◌≡◌, false}
use Rattle.qs_session_trials.proofs.drive.drive.Given as goal

abbrev pub invariant-loop : goal.invariant-loop
invariant-loop g l = record {
  of : g.S.Station.is_of l.hall l.station;
  shape : l.phase.value.crew.shape ≡ g.S.Station.shape l.hall;
  there : l.phase.value.detached ≡ false;
}
