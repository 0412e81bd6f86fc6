use Rattle.std.proofs.Common.{◌≡◌, ◌++◌, map, take, drop}
use Rattle.qs_tracker.specs.Seats.{ranked}
use Rattle.qs_tracker.proofs.places.renumber.Given as goal

abbrev pub invariant-loop-seat : goal.invariant-loop-seat
invariant-loop-seat l = l.seat-items ≡ map (ranked l.old) (take l.seat-index l.old) ++ drop l.seat-index l.old
