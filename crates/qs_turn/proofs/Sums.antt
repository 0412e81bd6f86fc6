-- Lists of numbers, and sums over lists.
use Rattle.std.proofs.Common.{◌≡◌, ◌≢◌, ℕ, zero, suc, ◌+◌, ◌<◌, ◌≤◌, Bool, true, false, true≢false, List, [], ◌∷◌, ◌++◌, length, set, refl, sym, ap, arith}
use Rattle.std.specs.Prelude.{◌==◌, nat_lt, ◌||◌, if◌then◌else◌, slice_index, slice_set}
use Rattle.std.proofs.lemmas.Bool.Decides.{nat_tests}
use Rattle.std.proofs.lemmas.List.{get_or-set_same, set-get_or}
use mathlib.Core.Option.{some, some-ne-none, some-injective}
use lib.ListN.{get_elem?}
use Rattle.qs_turn.specs.Rule.{word_at, has, times, once_below, total}

off : false ≡ true → ⊥
off e = true≢false (sym e)

module _ {A : Type 0} where
  -- a sum after a change of one member
  pub total_set : (f : A → ℕ) (l : List A) (i : ℕ) (v w : A) → get_elem? l i ≡ some v → total f (set l i w) + f v ≡ total f l + f w
  total_set f [] i v w e = absurd (some-ne-none v (sym e))
  total_set f (x ∷ xs) zero v w e = let s : f x ≡ f v = ap f (some-injective x v e) in omega arith
  total_set f (x ∷ xs) (suc i) v w e = let h = total_set f xs i v w e in omega arith

  pub total_snoc : (f : A → ℕ) (l : List A) (x : A) → total f (l ++ x ∷ []) ≡ total f l + f x
  total_snoc f [] x = omega arith
  total_snoc f (y ∷ ys) x = let h = total_snoc f ys x in omega arith

  -- what was written is there
  pub set_at : (l : List A) (i : ℕ) (v w : A) → get_elem? l i ≡ some v → get_elem? (set l i w) i ≡ some w
  set_at [] i v w e = absurd (some-ne-none v (sym e))
  set_at (x ∷ xs) zero v w e = refl
  set_at (x ∷ xs) (suc i) v w e = set_at xs i v w e

  -- one member is no more than the sum
  pub total_one : (f : A → ℕ) (l : List A) (i : ℕ) (v : A) → get_elem? l i ≡ some v → f v ≤ total f l
  total_one f [] i v e = absurd (some-ne-none v (sym e))
  total_one f (x ∷ xs) zero v e = let s : f x ≡ f v = ap f (some-injective x v e) in omega arith
  total_one f (x ∷ xs) (suc i) v e = let h = total_one f xs i v e in omega arith

  -- two members are no more than the sum
  pub total_two : (f : A → ℕ) (l : List A) (i j : ℕ) (v w : A) → j ≢ i → get_elem? l i ≡ some v → get_elem? l j ≡ some w → f v + f w ≤ total f l
  total_two f [] i j v w n e d = absurd (some-ne-none v (sym e))
  total_two f (x ∷ xs) zero zero v w n e d = absurd (n refl)
  total_two f (x ∷ xs) zero (suc j) v w n e d = let s : f x ≡ f v = ap f (some-injective x v e) in let h = total_one f xs j w d in omega arith
  total_two f (x ∷ xs) (suc i) zero v w n e d = let s : f x ≡ f w = ap f (some-injective x w d) in let h = total_one f xs i v e in omega arith
  total_two f (x ∷ xs) (suc i) (suc j) v w n e d = let h = total_two f xs i j v w (λ s. n (ap suc s)) e d in omega arith

module _ {A : Type 0} where
  total_zero : (f : A → ℕ) (l : List A) → ((j : ℕ) (u : A) → get_elem? l j ≡ some u → f u ≡ 0) → total f l ≡ 0
  total_zero f [] none = refl
  total_zero f (x ∷ xs) none = let h = total_zero f xs (λ j u e. none (suc j) u e) in let z = none 0 x refl in omega arith

  -- where all others have nothing, the sum is what the one has
  pub total_only : (f : A → ℕ) (l : List A) (i : ℕ) (v : A) → get_elem? l i ≡ some v → ((j : ℕ) (u : A) → j ≢ i → get_elem? l j ≡ some u → f u ≡ 0) → total f l ≡ f v
  total_only f [] i v e none = absurd (some-ne-none v (sym e))
  total_only f (x ∷ xs) zero v e none =
      let s : f x ≡ f v = ap f (some-injective x v e) in let h = total_zero f xs (λ j u d. none (suc j) u (λ p. absurd (omega arith)) d) in omega arith
  total_only f (x ∷ xs) (suc i) v e none =
      let z = none 0 x (λ p. absurd (omega arith)) refl in
      let h = total_only f xs i v e (λ j u ne d. none (suc j) u (λ p. ne (omega arith)) d) in omega arith

pub times_short : (k : ℕ) (xs : List ℕ) → times k xs ≤ length xs
times_short k [] = omega arith
times_short k (x ∷ xs) = go (k == x) (times_short k xs)
  where
    go : (b : Bool) → times k xs ≤ length xs → (if b then 1 else 0) + times k xs ≤ suc (length xs)
    go true h = omega arith
    go false h = omega arith

pub times-append : (k : ℕ) (xs ys : List ℕ) → times k (xs ++ ys) ≡ times k xs + times k ys
times-append k [] ys = omega arith
times-append k (x ∷ xs) ys = let h = times-append k xs ys in omega arith

-- a number that is there is there at least once
pub has_times : (xs : List ℕ) (k : ℕ) → has xs k ≡ true → 1 ≤ times k xs
has_times [] k e = absurd (off e)
has_times (x ∷ xs) k e = go (k == x) e (has_times xs k)
  where
    go : (b : Bool) → (b || has xs k) ≡ true → (has xs k ≡ true → 1 ≤ times k xs) → 1 ≤ (if b then 1 else 0) + times k xs
    go true d more = omega arith
    go false d more = let h = more d in omega arith

-- a number that is there no time isn't there
pub times_none : (xs : List ℕ) (k : ℕ) → times k xs ≡ 0 → has xs k ≡ false
times_none [] k e = refl
times_none (x ∷ xs) k e = go (k == x) e (times_none xs k)
  where
    go : (b : Bool) → (if b then 1 else 0) + times k xs ≡ 0 → (times k xs ≡ 0 → has xs k ≡ false) → (b || has xs k) ≡ false
    go true d more = absurd (omega arith)
    go false d more = more (omega arith)

none_times : (ys : List ℕ) (k : ℕ) → has ys k ≡ false → times k ys ≡ 0
none_times [] k e = refl
none_times (y ∷ ys) k e = go (k == y) e (none_times ys k)
  where
    go : (b : Bool) → (b || has ys k) ≡ false → (has ys k ≡ false → times k ys ≡ 0) → (if b then 1 else 0) + times k ys ≡ 0
    go true d more = absurd (true≢false d)
    go false d more = let z = more d in omega arith

-- a number that is there some time is there
pub times_has : (xs : List ℕ) (k : ℕ) → 1 ≤ times k xs → has xs k ≡ true
times_has xs k h = go (has xs k) refl
  where
    go : (b : Bool) → has xs k ≡ b → has xs k ≡ true
    go true e = e
    go false e = let z = none_times xs k e in absurd (omega arith)

pub has-append : (xs ys : List ℕ) (k : ℕ) → has (xs ++ ys) k ≡ (has xs k || has ys k)
has-append [] ys k = refl
has-append (x ∷ xs) ys k = go (k == x) (has-append xs ys k)
  where
    go : (b : Bool) → has (xs ++ ys) k ≡ (has xs k || has ys k) → (b || has (xs ++ ys) k) ≡ ((b || has xs k) || has ys k)
    go true e = refl
    go false e = e

pub once_yes : (k n : ℕ) → k < n → once_below k n ≡ 1
once_yes k n h = grind (arith, nat_tests)

pub once_at_most : (k n : ℕ) → once_below k n ≤ 1
once_at_most k n = go (nat_lt k n)
  where
    go : (b : Bool) → (if b then 1 else 0) ≤ 1
    go true = omega arith
    go false = omega arith

pub once_below_of : (k n : ℕ) → 1 ≤ once_below k n → k < n
once_below_of k n h = go (nat_lt k n) refl h
  where
    go : (b : Bool) → nat_lt k n ≡ b → 1 ≤ (if b then 1 else 0) → k < n
    go true e d = grind (arith, nat_tests)
    go false e d = absurd (omega arith)

-- one number more
pub once_more : (k n : ℕ) → once_below k (n + 1) ≡ once_below k n + ((if k == n then 1 else 0) + 0)
once_more k n = go (nat_lt k (n + 1)) (nat_lt k n) (k == n) refl refl refl
  where
    go : (a b d : Bool) → nat_lt k (n + 1) ≡ a → nat_lt k n ≡ b → (k == n) ≡ d → (if a then 1 else 0) ≡ (if b then 1 else 0) + ((if d then 1 else 0) + 0)
    go true true true e f g = absurd (grind (arith, nat_tests))
    go true true false e f g = refl
    go true false true e f g = refl
    go true false false e f g = absurd (grind (arith, nat_tests))
    go false true d e f g = absurd (grind (arith, nat_tests))
    go false false true e f g = absurd (grind (arith, nat_tests))
    go false false false e f g = refl

-- the word after a write
pub word_set : (ws : List ℕ) (n : ℕ) → length ws ≡ 16 → slice_index (slice_set ws word_at n) word_at ≡ n
word_set ws n h = get_or-set_same ws 8 n 0 (omega arith)

pub word_same : (ws : List ℕ) → slice_set ws word_at (slice_index ws word_at) ≡ ws
word_same ws = set-get_or ws 8 0
