use Rattle.std.proofs.Common.{◌≡◌, ◌∙◌, ℕ, ◌≤◌, ◌++◌, List, length, map, take, drop, sym, ap, get_or, arith, append-nil}
use Rattle.std.proofs.lemmas.List.{take_all, drop_all}
use Rattle.std.proofs.lemmas.List.Edits.{map_over_more}
use Rattle.qs_tracker.specs.declared.seat.Seat.{Seat}
use Rattle.qs_tracker.specs.Seats.{ranked, renumbered}
use Rattle.qs_tracker.proofs.places.renumber.Goals as goal

pub loop-seat-init : goal.loop-seat-init
loop-seat-init c = sym c.copy_from_slice.ensures.after

pub loop-seat-preserved : goal.loop-seat-preserved
loop-seat-preserved c =
    rw c.ranked.ensures
    (map_over_more (ranked c.copy_from_slice.new.self) c.copy_from_slice.new.self c.loop-seat.seat-items c.loop-seat.seat-index
    (get_or c.loop-seat.seat-items c.loop-seat.seat-index c.seat-item.result)
    (omega (arith, c.copy_from_slice.ensures.len, c.requires, c.loop-seat-test.true)) c.loop-seat.invariant
    (ap (λ (x : Seat). get_or c.loop-seat.seat-items c.loop-seat.seat-index x) c.seat-item.is))

all : (old items now : List Seat) (i : ℕ) → length now ≤ i → old ≡ now → items ≡ map (ranked old) (take i old) ++ drop i old → items ≡ renumbered now
all old items now i long same is =
    let short : length old ≤ i = rw same long in
    let whole : map (ranked old) (take i old) ++ drop i old ≡ renumbered old =
    rw (take_all i old short, drop_all i old short) (append-nil (renumbered old)) in
    is ∙ whole ∙ ap renumbered same

pub returns : goal.returns
returns c = all _ _ _ c.loop-seat.seat-index c.loop-seat-test.false c.copy_from_slice.ensures.after c.loop-seat.invariant
