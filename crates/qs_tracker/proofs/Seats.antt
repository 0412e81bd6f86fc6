-- Places that are read after a write.
use Rattle.std.proofs.Common.{◌≡◌, ℕ, ◌<◌, ◌≤◌, List, length, replicate, Bool, true, false, refl, sym, ◌∙◌, subst, arith}
use Rattle.std.specs.Prelude.{◌==◌, nat_lt}
use Rattle.std.specs.List.{slice_set}
use Rattle.std.proofs.lemmas.Bool.Decides.{nat_tests}
use Rattle.std.proofs.lemmas.List.{get_or-set_same, get_or-set_other, get_or_past, length-set, get_or-replicate, length-replicate}
use Rattle.qs_tracker.specs.declared.seat.Listing.{Listing}
use Rattle.qs_tracker.specs.declared.seat.Seat.{Seat}
use Rattle.qs_tracker.specs.declared.seat.Seat.TheVariants.{Vacant, Has}
use Rattle.qs_tracker.specs.Seats.{seat_at, Precedes}

-- what holds of a place, and of what is written at k, holds of the place after the write
pub at_set : (P : Seat → Type 0) (seats : List Seat) (k : ℕ) (s : Seat) (j : ℕ) → P (seat_at seats j) → (j ≡ k → P s) → P (seat_at (slice_set seats k s) j)
at_set P seats k s j old new = go (j == k) (nat_lt k (length seats)) refl refl
  where
    go : (a b : Bool) → (j == k) ≡ a → nat_lt k (length seats) ≡ b → P (seat_at (slice_set seats k s) j)
    go true true e f =
        let same : j ≡ k = grind (arith, nat_tests) in
        let inside : k < length seats = grind (arith, nat_tests) in
        rw same (subst P (sym (get_or-set_same seats k s Vacant inside)) (new same))
    go true false e f =
        let past : length seats ≤ j = grind (arith, nat_tests) in
        let nobody : seat_at seats j ≡ Vacant = get_or_past seats j Vacant past in
        let still : seat_at (slice_set seats k s) j ≡ Vacant =
        get_or_past (slice_set seats k s) j Vacant (omega (arith, length-set seats k s, past)) in
        subst P (nobody ∙ sym still) old
    go false b e f = subst P (sym (get_or-set_other seats k j s Vacant (λ h. absurd (grind (arith, nat_tests))))) old

-- nobody is at a place that there isn't
pub past : (seats : List Seat) (k : ℕ) (l : Listing) → length seats ≤ k → seat_at seats k ≡ Has l → ⊥
past seats k l h e = none (sym (get_or_past seats k Vacant h) ∙ e)
  where
    none : Vacant ≡ Has l → ⊥
    none f = cc

pub past_precedes : (seats : List Seat) (k : ℕ) (own : Listing) → length seats ≤ k → Precedes (seat_at seats k) own → ⊥
past_precedes seats k own h p = subst (λ (s : Seat). Precedes s own) (get_or_past seats k Vacant h) p

-- nobody is in a fresh tracker
pub nobody : (n k : ℕ) → seat_at (replicate n Vacant) k ≡ Vacant
nobody n k = go (nat_lt k n) refl
  where
    go : (b : Bool) → nat_lt k n ≡ b → seat_at (replicate n Vacant) k ≡ Vacant
    go true e = get_or-replicate n k Vacant Vacant (grind (arith, nat_tests))
    go false e = get_or_past (replicate n Vacant) k Vacant (long (grind (arith, nat_tests)))
      where
        long : n ≤ k → length (replicate n Vacant) ≤ k
        long h = grind (arith, length-replicate)
