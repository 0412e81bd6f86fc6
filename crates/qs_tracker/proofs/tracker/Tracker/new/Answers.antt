use Rattle.std.proofs.Common.{◌≡◌, ℕ, List, replicate, false, rules, sym, subst, ap, arith}
use Rattle.qs_tracker.specs.declared.seat.Seat.{Seat}
use Rattle.qs_tracker.specs.declared.seat.Seat.TheVariants.{Vacant}
use Rattle.qs_tracker.specs.Seats.{VacantFrom}
use Rattle.qs_tracker.specs.Table.{TrackerValue, fresh}
use Rattle.qs_tracker.proofs.Fronts.{all_vacant}
use Rattle.qs_tracker.proofs.tracker.Tracker.new.Goals as goal

of_seats : List Seat → ℕ → TrackerValue
of_seats seats n = record { seats = seats; number = n; quiesced = false }

made : (seats : List Seat) (n : ℕ) → seats ≡ replicate 256 Vacant → of_seats seats n ≡ fresh n
unfolding of_seats
made seats n is = ap (λ (xs : List Seat). of_seats xs n) is

pub returns : goal.returns
unfolding of_seats
returns c = made _ c.args.first c.in_ok-from_array.ensures.items

pub invariant_of-result : goal.invariant_of-result
invariant_of-result c =
    let is : c.in_ok-from_array.field-0.items ≡ replicate 256 Vacant = search rules in
    (search rules, omega arith, subst (VacantFrom 0) (sym is) (all_vacant 256))
