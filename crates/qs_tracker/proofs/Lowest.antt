-- The lowest number among the first places.
use Rattle.std.proofs.Common.{◌≡◌, ℕ, ◌+◌, ◌<◌, ◌≤◌, List, length, Bool, true, false, Option, Some, None, refl, sym, subst, arith}
use Rattle.std.specs.Prelude.{◌==◌, nat_lt, nat_le, min, MatchOption}
use Rattle.std.proofs.lemmas.Bool.Decides.{nat_tests}
use Rattle.qs_tracker.specs.declared.seat.Listing.{Listing}
use Rattle.qs_tracker.specs.declared.seat.Seat.{Seat}
use Rattle.qs_tracker.specs.Seats.{seat_at, seat_number, Precedes, IsClear, IsLowestBefore, lower_of}
use Rattle.qs_tracker.proofs.Seats.{past_precedes}

-- the same as IsLowestBefore, of the first i places
pub record LowestUpTo (seats : List Seat) (i : ℕ) (own : Listing) (n : ℕ) : Type 0 where
  pub at : ℕ
  pub precedes : Precedes (seat_at seats at) own
  pub number : seat_number (seat_at seats at) ≡ n
  pub lowest : (k : ℕ) → k < i → Precedes (seat_at seats k) own → n ≤ seat_number (seat_at seats k)

abbrev pub UpTo : List Seat → ℕ → Listing → Option ℕ → Type 0
UpTo seats i own o = MatchOption o ((k : ℕ) → k < i → Precedes (seat_at seats k) own → ⊥) (LowestUpTo seats i own)

-- what one place tells
abbrev pub Here : Seat → Listing → Option ℕ → Type 0
Here seat own o = MatchOption o (Precedes seat own → ⊥) (λ n. Precedes seat own × (n ≡ seat_number seat))

-- what holds of the first i numbers and of i holds of the first i + 1
pub one_more : (P : ℕ → Type 0) (i k : ℕ) → k < i + 1 → ((j : ℕ) → j < i → P j) → P i → P k
one_more P i k h below here = go (k == i) refl
  where
    go : (b : Bool) → (k == i) ≡ b → P k
    go true e = let same : i ≡ k = grind (arith, nat_tests) in subst P same here
    go false e = below k (grind (arith, nat_tests))

pub up_to_more : (seats : List Seat) (i : ℕ) (own : Listing) (o p : Option ℕ) → UpTo seats i own o → Here (seat_at seats i) own p →
    UpTo seats (i + 1) own (lower_of o p)
up_to_more seats i own None None none here = λ k h. one_more (λ j. Precedes (seat_at seats j) own → ⊥) i k h none here
up_to_more seats i own None (Some m) none here = record {
  at = i;
  precedes = here.0;
  number = sym here.1;
  lowest = λ k h. one_more (λ j. Precedes (seat_at seats j) own → m ≤ seat_number (seat_at seats j)) i k h
      (λ j f p. absurd (none j f p)) (λ p. omega (arith, here.1));
}
up_to_more seats i own (Some n) None old here = record {
  at = old.at;
  precedes = old.precedes;
  number = old.number;
  lowest = λ k h. one_more (λ j. Precedes (seat_at seats j) own → n ≤ seat_number (seat_at seats j)) i k h old.lowest (λ p. absurd (here p));
}
up_to_more seats i own (Some n) (Some m) old here = go (nat_le n m) refl
  where
    lower : (k : ℕ) → k < i + 1 → Precedes (seat_at seats k) own → min n m ≤ seat_number (seat_at seats k)
    lower k h = one_more (λ j. Precedes (seat_at seats j) own → min n m ≤ seat_number (seat_at seats j)) i k h
        (λ j f p. omega (arith, old.lowest j f p)) (λ p. omega (arith, here.1))

    go : (b : Bool) → nat_le n m ≡ b → LowestUpTo seats (i + 1) own (min n m)
    go true e =
        let le : n ≤ m = grind (arith, nat_tests) in
        let is : seat_number (seat_at seats old.at) ≡ min n m = omega (arith, old.number, le) in
        record { at = old.at; precedes = old.precedes; number = is; lowest = lower }
    go false e =
        let le : m < n = grind (arith, nat_tests) in
        let is : seat_number (seat_at seats i) ≡ min n m = omega (arith, here.1, le) in
        record { at = i; precedes = here.0; number = is; lowest = lower }

-- all places
pub up_to_all : (seats : List Seat) (i : ℕ) (own : Listing) (o : Option ℕ) → length seats ≤ i → UpTo seats i own o →
    MatchOption o (IsClear seats own) (IsLowestBefore seats own)
up_to_all seats i own None long none = λ k. go k (nat_lt k i) refl
  where
    go : (k : ℕ) → (b : Bool) → nat_lt k i ≡ b → Precedes (seat_at seats k) own → ⊥
    go k true e = none k (grind (arith, nat_tests))
    go k false e = past_precedes seats k own (grind (arith, nat_tests))
up_to_all seats i own (Some n) long old = record { at = old.at; precedes = old.precedes; number = old.number; lowest = λ k. go k (nat_lt k i) refl }
  where
    go : (k : ℕ) → (b : Bool) → nat_lt k i ≡ b → Precedes (seat_at seats k) own → n ≤ seat_number (seat_at seats k)
    go k true e = old.lowest k (grind (arith, nat_tests))
    go k false e = λ p. absurd (past_precedes seats k own (grind (arith, nat_tests)) p)
