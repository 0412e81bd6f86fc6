-- The order of listed spans that are numbered anew.
use Rattle.std.proofs.Common.{◌≡◌, ℕ, ◌+◌, ◌<◌, ◌≤◌, zero, suc, List, [], ◌∷◌, length, Bool, true, false, cond, refl, sym, subst, arith}
use Rattle.std.specs.Prelude.{count_by, nat_lt}
use Rattle.std.proofs.lemmas.Bool.Decides.{nat_tests}
use Rattle.std.proofs.lemmas.List.Sums.{sum_by-cons}
use Rattle.qs_tracker.specs.declared.seat.Listing.{Listing}
use Rattle.qs_tracker.specs.declared.seat.Seat.{Seat}
use Rattle.qs_tracker.specs.declared.seat.Seat.TheVariants.{Has}
use Rattle.qs_tracker.specs.Seats.{seat_at, is_listed, is_listed_below, rank}
use Rattle.qs_tracker.proofs.Seats.{past}

-- one for a place that passes
abbrev pub one_if : Bool → ℕ
one_if b = cond b 1 0

pub count_cons : (p : Seat → Bool) (x : Seat) (xs : List Seat) → count_by p (x ∷ xs) ≡ one_if (p x) + count_by p xs
count_cons p x xs = sum_by-cons (λ s. cond (p s) 1 0) x xs

-- a test that passes where another does counts no less
pub count_le : (p q : Seat → Bool) (xs : List Seat) → ((s : Seat) → one_if (p s) ≤ one_if (q s)) → count_by p xs ≤ count_by q xs
count_le p q [] h = omega arith
count_le p q (x ∷ xs) h = omega (arith, count_cons p x xs, count_cons q x xs, count_le p q xs h, h x)

-- and more, where it passes a place that the other doesn't
pub count_lt : (p q : Seat → Bool) (xs : List Seat) (k : ℕ) → ((s : Seat) → one_if (p s) ≤ one_if (q s)) → k < length xs →
    one_if (p (seat_at xs k)) < one_if (q (seat_at xs k)) → count_by p xs < count_by q xs
count_lt p q [] k h inside more = absurd (omega arith)
count_lt p q (x ∷ xs) zero h inside more = omega (arith, count_cons p x xs, count_cons q x xs, count_le p q xs h, more)
count_lt p q (x ∷ xs) (suc k) h inside more =
    omega (arith, count_cons p x xs, count_cons q x xs, count_lt p q xs k h (omega arith) more, h x)

pub below_le : (n m : ℕ) → n ≤ m → (s : Seat) → one_if (is_listed_below n s) ≤ one_if (is_listed_below m s)
below_le n m h (Has l) = go (nat_lt l.number n) (nat_lt l.number m) refl refl
  where
    go : (a b : Bool) → nat_lt l.number n ≡ a → nat_lt l.number m ≡ b → one_if a ≤ one_if b
    go true true e f = omega arith
    go true false e f = absurd (grind (arith, nat_tests))
    go false b e f = omega arith
below_le n m h _ = omega arith

pub listed_le : (n : ℕ) (s : Seat) → one_if (is_listed_below n s) ≤ one_if (is_listed s)
listed_le n (Has l) = go (nat_lt l.number n)
  where
    go : (a : Bool) → one_if a ≤ 1
    go true = omega arith
    go false = omega arith
listed_le n _ = omega arith

pub inside : (seats : List Seat) (k : ℕ) (l : Listing) → seat_at seats k ≡ Has l → k < length seats
inside seats k l e = go (nat_lt k (length seats)) refl
  where
    go : (b : Bool) → nat_lt k (length seats) ≡ b → k < length seats
    go true f = grind (arith, nat_tests)
    go false f = absurd (past seats k l (grind (arith, nat_tests)) e)

pub rank_le : (seats : List Seat) (n m : ℕ) → n ≤ m → rank seats n ≤ rank seats m
rank_le seats n m h = count_le (is_listed_below n) (is_listed_below m) seats (below_le n m h)

-- a listed span has a lower rank than any of a greater number
pub rank_lt : (seats : List Seat) (k : ℕ) (l : Listing) (m : ℕ) → seat_at seats k ≡ Has l → l.number < m → rank seats l.number < rank seats m
rank_lt seats k l m e h =
    count_lt (is_listed_below l.number) (is_listed_below m) seats k (below_le l.number m (omega arith)) (inside seats k l e)
    (subst (λ (s : Seat). one_if (is_listed_below l.number s) < one_if (is_listed_below m s)) (sym e) (go _ _ refl refl))
  where
    go : (a b : Bool) → nat_lt l.number l.number ≡ a → nat_lt l.number m ≡ b → one_if a < one_if b
    go true b f g = absurd (grind (arith, nat_tests))
    go false true f g = omega arith
    go false false f g = absurd (grind (arith, nat_tests))

-- and it is below their count
pub rank_below : (seats : List Seat) (k : ℕ) (l : Listing) → seat_at seats k ≡ Has l → rank seats l.number < count_by is_listed seats
rank_below seats k l e =
    count_lt (is_listed_below l.number) is_listed seats k (listed_le l.number) (inside seats k l e)
    (subst (λ (s : Seat). one_if (is_listed_below l.number s) < one_if (is_listed s)) (sym e) (go _ refl))
  where
    go : (a : Bool) → nat_lt l.number l.number ≡ a → one_if a < 1
    go true f = absurd (grind (arith, nat_tests))
    go false f = omega arith
