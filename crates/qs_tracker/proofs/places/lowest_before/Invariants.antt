use Rattle.qs_tracker.proofs.Lowest.{UpTo}
use Rattle.qs_tracker.proofs.places.lowest_before.Given as goal

abbrev pub invariant-loop-seat : goal.invariant-loop-seat
invariant-loop-seat l = UpTo l.seats l.seat-index l.own l.lowest
