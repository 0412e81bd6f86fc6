use Rattle.std.proofs.Common.{◌≡◌, ◌∙◌, subst, arith}
use Rattle.std.proofs.lemmas.List.{get_or_default}
use Rattle.qs_tracker.specs.declared.seat.Seat.{Seat}
use Rattle.qs_tracker.specs.declared.seat.Seat.TheVariants.{Vacant}
use Rattle.qs_tracker.specs.Seats.{seat_at}
use Rattle.qs_tracker.proofs.Lowest.{Here, up_to_more, up_to_all}
use Rattle.qs_tracker.proofs.places.lowest_before.Goals as goal

pub loop-seat-init : goal.loop-seat-init
loop-seat-init c = λ k h. absurd (omega arith)

pub loop-seat-preserved : goal.loop-seat-preserved
loop-seat-preserved c =
    let is : c.seat-item.result ≡ seat_at c.args.seats.now c.loop-seat.seat-index =
    c.seat-item.is ∙ get_or_default c.args.seats.now c.loop-seat.seat-index c.seat-item.result Vacant c.loop-seat-test.true in
    rw c.lower-lowest.ensures
    (up_to_more c.args.seats.now c.loop-seat.seat-index c.args.own.now c.loop-seat.lowest c.number_before.result c.loop-seat.invariant
    (subst (λ (s : Seat). Here s c.args.own.now c.number_before.result) is c.number_before.ensures))

pub returns : goal.returns
returns c = up_to_all c.args.seats.now c.loop-seat.seat-index c.args.own.now c.loop-seat.lowest c.loop-seat-test.false c.loop-seat.invariant
