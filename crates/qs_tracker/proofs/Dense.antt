-- The numbers of spans that are numbered anew are 0, 1, 2 and so on.
use Rattle.std.proofs.Common.{◌≡◌, ℕ, ◌+◌, ◌<◌, ◌≤◌, zero, suc, List, [], ◌∷◌, Bool, true, false, refl, sym, ◌∙◌, ap, subst, arith, inl, inr, ◌⊎◌}
use Rattle.std.specs.Prelude.{count_by, nat_lt}
use Rattle.std.proofs.lemmas.Bool.Decides.{nat_tests}
use Rattle.qs_tracker.specs.declared.seat.Listing.{Listing}
use Rattle.qs_tracker.specs.declared.seat.Seat.{Seat}
use Rattle.qs_tracker.specs.declared.seat.Seat.TheVariants.{Vacant, Present, Has}
use Rattle.qs_tracker.specs.Seats.{seat_at, is_listed, is_listed_below, rank}
use Rattle.qs_tracker.proofs.Ranks.{one_if, count_cons}

-- no two places have spans of one number
abbrev pub Distinct : List Seat → Type 0
Distinct seats = (j k : ℕ) (l m : Listing) → seat_at seats j ≡ Has l → seat_at seats k ≡ Has m → l.number ≡ m.number → j ≡ k

pub distinct_rest : (x : Seat) (xs : List Seat) → Distinct (x ∷ xs) → Distinct xs
distinct_rest x xs d j k l m at there e = let up : suc j ≡ suc k = d (suc j) (suc k) l m at there e in omega (arith, up)

-- a span of number t stands at a place
pub record Stands (seats : List Seat) (t : ℕ) : Type 0 where
  pub place : ℕ
  pub span : Listing
  pub at : seat_at seats place ≡ Has span
  pub number : span.number ≡ t

pub stands_more : (x : Seat) (xs : List Seat) (t : ℕ) → Stands xs t → Stands (x ∷ xs) t
stands_more x xs t s = record { place = suc s.place; span = s.span; at = s.at; number = s.number }

-- one place more counts the same below t and below t + 1, unless its span has number t
pub same_below : (t : ℕ) (s : Seat) → (one_if (is_listed_below (t + 1) s) ≡ one_if (is_listed_below t s)) ⊎ ((l : Listing) × ((s ≡ Has l) × (l.number ≡ t)))
same_below t (Has l) = go (nat_lt l.number (t + 1)) (nat_lt l.number t) refl refl
  where
    go : (a b : Bool) → nat_lt l.number (t + 1) ≡ a → nat_lt l.number t ≡ b →
        (one_if a ≡ one_if b) ⊎ ((m : Listing) × ((Has l ≡ Has m) × (m.number ≡ t)))
    go true true e f = inl refl
    go true false e f = inr (l, (refl, grind (arith, nat_tests)))
    go false true e f = absurd (grind (arith, nat_tests))
    go false false e f = inl refl
same_below t Vacant = inl refl
same_below t Present = inl refl

-- one number more is at most one span more, and where it is, that span stands
pub rank_step : (seats : List Seat) (t : ℕ) → Distinct seats →
    (rank seats (t + 1) ≡ rank seats t) ⊎ ((rank seats (t + 1) ≡ rank seats t + 1) × Stands seats t)
rank_step [] t d = inl refl
rank_step (x ∷ xs) t d = go (same_below t x) (rank_step xs t (distinct_rest x xs d))
  where
    go : (one_if (is_listed_below (t + 1) x) ≡ one_if (is_listed_below t x)) ⊎ ((l : Listing) × ((x ≡ Has l) × (l.number ≡ t))) →
        (rank xs (t + 1) ≡ rank xs t) ⊎ ((rank xs (t + 1) ≡ rank xs t + 1) × Stands xs t) →
        (rank (x ∷ xs) (t + 1) ≡ rank (x ∷ xs) t) ⊎ ((rank (x ∷ xs) (t + 1) ≡ rank (x ∷ xs) t + 1) × Stands (x ∷ xs) t)
    go (inl e) (inl f) = inl (omega (arith, count_cons (is_listed_below (t + 1)) x xs, count_cons (is_listed_below t) x xs, e, f))
    go (inl e) (inr f) = inr (omega (arith, count_cons (is_listed_below (t + 1)) x xs, count_cons (is_listed_below t) x xs, e, f.0), stands_more x xs t f.1)
    go (inr h) (inl f) = inr (
      omega (arith, count_cons (is_listed_below (t + 1)) x xs, count_cons (is_listed_below t) x xs, f, above, under),
      record { place = 0; span = h.0; at = h.1.0; number = h.1.1 },
    )
      where
        above : one_if (is_listed_below (t + 1) x) ≡ 1
        above = subst (λ (s : Seat). one_if (is_listed_below (t + 1) s) ≡ 1) (sym h.1.0) (pick (nat_lt h.0.number (t + 1)) refl)
          where
            pick : (b : Bool) → nat_lt h.0.number (t + 1) ≡ b → one_if b ≡ 1
            pick true e = refl
            pick false e = absurd (grind (arith, nat_tests, h.1.1))

        under : one_if (is_listed_below t x) ≡ 0
        under = subst (λ (s : Seat). one_if (is_listed_below t s) ≡ 0) (sym h.1.0) (pick (nat_lt h.0.number t) refl)
          where
            pick : (b : Bool) → nat_lt h.0.number t ≡ b → one_if b ≡ 0
            pick true e = absurd (grind (arith, nat_tests, h.1.1))
            pick false e = refl
    go (inr h) (inr f) =
        let same : 0 ≡ suc f.1.place = d 0 (suc f.1.place) h.0 f.1.span h.1.0 f.1.at (h.1.1 ∙ sym f.1.number) in
        absurd (omega (arith, same))

pub rank_zero : (seats : List Seat) → rank seats 0 ≡ 0
rank_zero [] = refl
rank_zero (x ∷ xs) = omega (arith, count_cons (is_listed_below 0) x xs, rank_zero xs, none x)
  where
    none : (s : Seat) → one_if (is_listed_below 0 s) ≡ 0
    none (Has l) = pick (nat_lt l.number 0) refl
      where
        pick : (b : Bool) → nat_lt l.number 0 ≡ b → one_if b ≡ 0
        pick true e = absurd (grind (arith, nat_tests))
        pick false e = refl
    none Vacant = refl
    none Present = refl

-- each rank below that of t is the rank of a listed span
pub rank_dense : (seats : List Seat) (t n : ℕ) → Distinct seats → n < rank seats t →
    (k : ℕ) × (l : Listing) × ((seat_at seats k ≡ Has l) × (rank seats l.number ≡ n))
rank_dense seats zero n d h = absurd (omega (arith, h, rank_zero seats))
rank_dense seats (suc t) n d h = go (λ f. rank_dense seats t n d f) (nat_lt n (rank seats t)) refl (rank_step seats t d)
  where
    next : suc t ≡ t + 1
    next = omega arith

    found : rank seats t ≡ n → Stands seats t → (k : ℕ) × (l : Listing) × ((seat_at seats k ≡ Has l) × (rank seats l.number ≡ n))
    found e s = (s.place, s.span, (s.at, ap (λ (i : ℕ). rank seats i) s.number ∙ e))

    up : n < rank seats (t + 1)
    up = subst (λ (i : ℕ). n < rank seats i) next h

    go : (n < rank seats t → (k : ℕ) × (l : Listing) × ((seat_at seats k ≡ Has l) × (rank seats l.number ≡ n))) → (b : Bool) → nat_lt n (rank seats t) ≡ b →
        (rank seats (t + 1) ≡ rank seats t) ⊎ ((rank seats (t + 1) ≡ rank seats t + 1) × Stands seats t) →
        (k : ℕ) × (l : Listing) × ((seat_at seats k ≡ Has l) × (rank seats l.number ≡ n))
    go rec true e step = rec (grind (arith, nat_tests))
    go rec false e (inl f) = let most : rank seats t ≤ n = grind (arith, nat_tests) in absurd (omega (arith, f, up, most))
    go rec false e (inr f) = let most : rank seats t ≤ n = grind (arith, nat_tests) in found (omega (arith, f.0, up, most)) f.1

-- all listed spans are below a bound on their numbers
pub rank_all : (seats : List Seat) (t : ℕ) → ((k : ℕ) (l : Listing) → seat_at seats k ≡ Has l → l.number < t) → rank seats t ≡ count_by is_listed seats
rank_all [] t below = refl
rank_all (x ∷ xs) t below =
    omega (arith, count_cons (is_listed_below t) x xs, count_cons is_listed x xs, rank_all xs t (λ k l h. below (suc k) l h), same x refl)
  where
    same : (s : Seat) → x ≡ s → one_if (is_listed_below t s) ≡ one_if (is_listed s)
    same (Has l) e = pick (nat_lt l.number t) refl
      where
        pick : (b : Bool) → nat_lt l.number t ≡ b → one_if b ≡ 1
        pick true f = refl
        pick false f = let h : l.number < t = below 0 l e in absurd (grind (arith, nat_tests))
    same Vacant e = refl
    same Present e = refl
