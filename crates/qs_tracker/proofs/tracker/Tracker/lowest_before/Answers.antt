use Rattle.std.proofs.Common.{◌≡◌, List, rules, sym, subst, arith}
use Rattle.std.specs.Prelude.{MatchOption}
use Rattle.qs_tracker.specs.declared.seat.Seat.{Seat}
use Rattle.qs_tracker.specs.Seats.{IsClear, IsLowestBefore}
use Rattle.qs_tracker.proofs.Fronts.{before_front}
use Rattle.qs_tracker.proofs.tracker.Tracker.lowest_before.Goals as goal

pub returns : goal.returns
returns c =
    let whole : c.args.self.now.seats ≡ c.self.inside.seats.items = search rules in
    subst (λ (xs : List Seat). MatchOption c.lowest_before.result (IsClear xs c.args.own.now) (IsLowestBefore xs c.args.own.now)) (sym whole)
    (before_front c.self.inside.top c.self.inside.seats.items c.deref.result.now c.args.own.now c.lowest_before.result c.deref.ensures.value
    (omega (arith, c.self.invariant.0, c.self.invariant.1)) c.self.invariant.2 c.lowest_before.ensures)
