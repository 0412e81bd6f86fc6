use Rattle.std.proofs.Common.{◌≡◌, replicate, rules, sym, subst, arith}
use Rattle.qs_tracker.specs.declared.seat.Seat.TheVariants.{Vacant}
use Rattle.qs_tracker.specs.Seats.{VacantFrom}
use Rattle.qs_tracker.proofs.Fronts.{all_vacant}
use Rattle.qs_tracker.proofs.tracker.Tracker.reset.Goals as goal

pub invariant_of-self : goal.invariant_of-self
invariant_of-self c =
    let is : c.fill.new.self.items ≡ replicate 256 Vacant = search rules in
    (search rules, omega arith, subst (VacantFrom 0) (sym is) (all_vacant 256))
