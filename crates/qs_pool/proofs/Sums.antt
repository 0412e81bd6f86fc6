-- Sums over lists, and how many links have a place.
use Rattle.std.proofs.Common.{◌≡◌, ℕ, zero, suc, ◌+◌, ◌<◌, ◌≤◌, Bool, true, false, List, [], ◌∷◌, ◌++◌, set, refl, sym, ap, arith}
use Rattle.std.specs.Prelude.{◌==◌, nat_lt, if◌then◌else◌}
use Rattle.std.proofs.lemmas.Bool.Decides.{nat_tests}
use mathlib.Core.Option.{some, some-ne-none, some-injective}
use lib.ListN.{get_elem?}
use Rattle.qs_pool.specs.Lines.{count_at, link_at, one_below, summed}
use Rattle.qs_pool.specs.declared.ledger.LinkAt.{LinkAt}

module _ {A : Type 0} where
  -- a sum after a change of one member
  pub summed_set : (f : A → ℕ) (l : List A) (i : ℕ) (v w : A) → get_elem? l i ≡ some v → summed f (set l i w) + f v
      ≡ summed f l + f w
  summed_set f [] i v w e = absurd (some-ne-none v (sym e))
  summed_set f (x ∷ xs) zero v w e = let s : f x ≡ f v = ap f (some-injective x v e) in omega arith
  summed_set f (x ∷ xs) (suc i) v w e = let h = summed_set f xs i v w e in omega arith

  -- a member more at the end
  pub summed_snoc : (f : A → ℕ) (l : List A) (x : A) → summed f (l ++ x ∷ []) ≡ summed f l + f x
  summed_snoc f [] x = omega arith
  summed_snoc f (y ∷ ys) x = let h = summed_snoc f ys x in omega arith

  -- one member is no more than the sum
  pub summed_one : (f : A → ℕ) (l : List A) (i : ℕ) (v : A) → get_elem? l i ≡ some v → f v ≤ summed f l
  summed_one f [] i v e = absurd (some-ne-none v (sym e))
  summed_one f (x ∷ xs) zero v e = let s : f x ≡ f v = ap f (some-injective x v e) in omega arith
  summed_one f (x ∷ xs) (suc i) v e = let h = summed_one f xs i v e in omega arith

pub count_both : {L : Type 0} → (k : ℕ) (xs ys : List (LinkAt L)) → count_at k (xs ++ ys)
    ≡ count_at k xs + count_at k ys
count_both k [] ys = omega arith
count_both k (x ∷ xs) ys = let h = count_both k xs ys in omega arith

pub one_at_most : (k n : ℕ) → one_below k n < 2
one_at_most k n = go (nat_lt k n)
  where
    go : (b : Bool) → (if b then 1 else 0) < 2
    go true = omega arith
    go false = omega arith

-- one place more
pub one_more : (k n : ℕ) → one_below k (n + 1) ≡ one_below k n + ((if k == n then 1 else 0) + 0)
one_more k n = go (nat_lt k (n + 1)) (nat_lt k n) (k == n) refl refl refl
  where
    go : (a b d : Bool) → nat_lt k (n + 1) ≡ a → nat_lt k n ≡ b → (k == n) ≡ d → (if a then 1 else 0)
        ≡ (if b then 1 else 0) + ((if d then 1 else 0) + 0)
    go true true true e f g = absurd (grind (arith, nat_tests))
    go true true false e f g = refl
    go true false true e f g = refl
    go true false false e f g = absurd (grind (arith, nat_tests))
    go false true d e f g = absurd (grind (arith, nat_tests))
    go false false true e f g = absurd (grind (arith, nat_tests))
    go false false false e f g = refl

-- the sum behind one more link at the end of the line, whose pass has it
pub counted_more : {A L : Type 0} → (f : A → List (LinkAt L)) (l : List A) (i : ℕ) (v w : A) (k n : ℕ) (x : L) →
    get_elem? l i ≡ some v → f w ≡ f v ++ link_at n x ∷ []
    → summed (λ u. count_at k (f u)) l ≡ one_below k n → summed (λ u. count_at k (f u)) (set l i w)
    ≡ one_below k (n + 1)
counted_more f l i v w k n x e more was =
    let moved = summed_set (λ u. count_at k (f u)) l i v w e in
    let own : count_at k (f w) ≡ count_at k (f v ++ link_at n x ∷ []) = ap (count_at k) more in
    let split = count_both k (f v) (link_at n x ∷ []) in
    let next = one_more k n in
    omega arith

-- the sum where a pass has as many as before
pub counted_same : {A L : Type 0} → (f : A → List (LinkAt L)) (l : List A) (i : ℕ) (v w : A) (k : ℕ) → get_elem? l i
    ≡ some v → f w ≡ f v
    → summed (λ u. count_at k (f u)) (set l i w) ≡ summed (λ u. count_at k (f u)) l
counted_same f l i v w k e as_before =
    let moved = summed_set (λ u. count_at k (f u)) l i v w e in
    let own : count_at k (f w) ≡ count_at k (f v) = ap (count_at k) as_before in
    omega arith

-- the sum where one pass has what two had, and the other nothing
pub counted_joined : {A L : Type 0} → (f : A → List (LinkAt L)) (l : List A) (i j : ℕ) (v w both spent : A)
    (k : ℕ) → get_elem? l i ≡ some v → get_elem? (set l i both) j ≡ some w
    → f both ≡ f v ++ f w → f spent ≡ [] → summed (λ u. count_at k (f u)) (set (set l i both) j spent)
    ≡ summed (λ u. count_at k (f u)) l
counted_joined f l i j v w both spent k e d all none =
    let first = summed_set (λ u. count_at k (f u)) l i v both e in
    let second = summed_set (λ u. count_at k (f u)) (set l i both) j w spent d in
    let own : count_at k (f both) ≡ count_at k (f v ++ f w) = ap (count_at k) all in
    let split = count_both k (f v) (f w) in
    let nothing : count_at k (f spent) ≡ 0 = ap (count_at k) none in
    omega arith
