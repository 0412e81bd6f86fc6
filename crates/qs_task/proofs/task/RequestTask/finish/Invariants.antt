use Rattle.std.proofs.Common.{◌≡◌, false}
use Rattle.qs_task.proofs.Walking.{PolledOn}
use Rattle.qs_task.proofs.task.RequestTask.finish.Given as goal

abbrev pub invariant-loop : goal.invariant-loop
invariant-loop g l =
    g.S.Station.is_of l.hall l.station × (l.self.shape ≡ g.S.Station.shape l.hall) × (l.self.over ≡ false)
    × PolledOn l.fn.self l.self (g.S.Station.book l.fn.station) (g.S.Station.book l.station)
    × g.S.Station.follows l.fn.station l.station
