-- What the table's rows say of each place, for the crate above.
use Rattle.std.proofs.Common.{◌≡◌, ◌≢◌, ℕ, ◌-◌, ◌^◌, ◌<◌, List, length, Bool, true, false, cond, refl, sym, ◌∙◌, subst, arith}
use Rattle.std.specs.Prelude.{nat_lt, Some, position, count_by}
use Rattle.std.specs.List.{slice_set}
use Rattle.std.proofs.lemmas.Bool.Decides.{nat_tests}
use Rattle.std.proofs.lemmas.List.{get_or-set_same, get_or-set_other, get_or_past, length-map, length-set}
use Rattle.std.proofs.lemmas.List.Quantifiers.{position-Some}
use Rattle.qs_part.specs.declared.tracker.TrackerOp.{TrackerOp}
use Rattle.qs_part.specs.declared.tracker.TrackerOp.TheVariants.{Enter, List as ToList, Start, End, Quiesce, Resume}
use Rattle.qs_part.specs.declared.tracker.TrackerReply.{TrackerReply}
use Rattle.qs_part.specs.declared.tracker.TrackerReply.TheVariants.{Entered, Listed, Started, Ended, Stopped, Resumed}
use Rattle.qs_tracker.specs.declared.seat.Seat.{Seat}
use Rattle.qs_tracker.specs.declared.seat.Seat.TheVariants.{Vacant, Present, Has}
use Rattle.qs_tracker.specs.Seats.{seat_at, is_vacant, is_listed, ranked, renumbered}
use Rattle.qs_tracker.specs.Table.{TrackerValue, numbered, going, after}
use Rattle.qs_tracker.specs.History.{SameSeat}
use Rattle.qs_tracker.proofs.Sound.{ranked_at}
use Rattle.qs_tracker.proofs.Renumbering.{same_ranked}

-- a place after a write: what was written, or what was there
pub seat_here : (seats : List Seat) (k : ℕ) (s : Seat) → k < length seats → seat_at (slice_set seats k s) k ≡ s
seat_here seats k s inside = get_or-set_same seats k s Vacant inside

pub seat_other : (seats : List Seat) (k : ℕ) (s : Seat) (j : ℕ) → j ≢ k → seat_at (slice_set seats k s) j ≡ seat_at seats j
seat_other seats k s j apart = get_or-set_other seats k j s Vacant apart

-- a place where somebody is stands in the list
pub taken_inside : (seats : List Seat) (k : ℕ) → seat_at seats k ≢ Vacant → k < length seats
taken_inside seats k taken = go (nat_lt k (length seats)) refl
  where
    go : (b : Bool) → nat_lt k (length seats) ≡ b → k < length seats
    go true f = grind (arith, nat_tests)
    go false f = absurd (taken (get_or_past seats k Vacant (grind (arith, nat_tests))))

-- the lowest free place is free, and stands in the list
pub free_place : (seats : List Seat) (k : ℕ) → position is_vacant seats ≡ Some k → (k < length seats) × (seat_at seats k ≡ Vacant)
free_place seats k is =
    let at = position-Some is_vacant seats k Vacant is in
    (at.0, vacant (seat_at seats k) at.1)
  where
    vacant : (s : Seat) → is_vacant s ≡ true → s ≡ Vacant
    vacant Vacant h = refl
    vacant Present h = cc
    vacant (Has l) h = cc

pub same_seat : (s : Seat) → SameSeat s s
same_seat Vacant = tt
same_seat Present = tt
same_seat (Has l) = refl

-- numbers given anew leave every place as it is but for its number
pub numbered_seat : (v : TrackerValue) (j : ℕ) → SameSeat (seat_at v.seats j) (seat_at (numbered v).seats j)
numbered_seat v j = go (nat_lt v.number (2 ^ 64 - 1))
  where
    go : (b : Bool) → SameSeat (seat_at v.seats j)
        (seat_at (cond b v (record { seats = renumbered v.seats; number = count_by is_listed v.seats; quiesced = v.quiesced })).seats j)
    go true = same_seat (seat_at v.seats j)
    go false = subst (λ (s : Seat). SameSeat (seat_at v.seats j) s) (sym (ranked_at v.seats j)) (same_ranked v.seats (seat_at v.seats j))

pub numbered_length : (v : TrackerValue) → length (numbered v).seats ≡ length v.seats
numbered_length v = go (nat_lt v.number (2 ^ 64 - 1))
  where
    go : (b : Bool) → length (cond b v (record { seats = renumbered v.seats; number = count_by is_listed v.seats; quiesced = v.quiesced })).seats ≡ length v.seats
    go true = refl
    go false = length-map v.seats (ranked v.seats)

-- the places stay as many as they are
pub after_length : (v : TrackerValue) (op : TrackerOp) (reply : TrackerReply) → length (after v op reply).seats ≡ length v.seats
after_length v Enter (Entered k) = length-set v.seats k Present
after_length v (ToList k span serial) (Listed n) = length-set (numbered v).seats k _ ∙ numbered_length v
after_length v (Start k) Started = length-set v.seats k (going (seat_at v.seats k))
after_length v (End k) Ended = length-set v.seats k Vacant
after_length v Quiesce Stopped = refl
after_length v Resume Resumed = refl
after_length v _ _ = refl
