-- The order of runs by session and cookie, and what a change of one run does.
use Rattle.std.proofs.Common.{◌≡◌, ℕ, ◌<◌, ◌≤◌, Option, Bool, true, false, cond, refl, sym, ap, ◌∙◌, subst, arith}
use Rattle.std.specs.Ordering.{is_eq, is_gt, is_lt, nat_cmp, ordering_then, MatchOrdering}
use Rattle.std.specs.declared.cmp.Ordering.{Ordering}
use Rattle.std.specs.declared.cmp.Ordering.TheVariants.{Less, Equal, Greater}
use Rattle.std.specs.Cmp.{Equal-is, IsTotalOrder, nat_cmp_total, on_total, ranks, then_total, tied_itself}
use Rattle.std.specs.BTreeMap.{Updates, get}
use Rattle.std.proofs.lemmas.Map.Keys.{ge_from_not_lt, le_from_not_gt}
use Rattle.std.proofs.lemmas.Map.Lookups.{CmpEqualImpliesEq, exact_pairs, exact_unsigned}
use Rattle.qs_cookies.specs.Used.{CookieRuns, by_session}

pub total : IsTotalOrder by_session
total = then_total (on_total (λ (x : ℕ × ℕ). x.0) nat_cmp_total) (on_total (λ (x : ℕ × ℕ). x.1) nat_cmp_total)

pub exact : CmpEqualImpliesEq by_session
exact = exact_pairs nat_cmp nat_cmp exact_unsigned exact_unsigned

-- within a session the cookies are compared
pub within : (n a b : ℕ) → by_session (n, a) (n, b) ≡ nat_cmp a b
within n a b = ap (λ (r : Ordering). ordering_then r (nat_cmp a b)) (tied_itself nat_cmp_total n)

pub le_within : (n a b : ℕ) → is_gt (by_session (n, a) (n, b)) ≡ false → a ≤ b
le_within n a b low = le_from_not_gt a b (ap is_gt (sym (within n a b)) ∙ low)

pub ge_within : (n a b : ℕ) → is_lt (by_session (n, a) (n, b)) ≡ false → b ≤ a
ge_within n a b low = ge_from_not_lt a b (ap is_lt (sym (within n a b)) ∙ low)

not_gt : (a b : ℕ) → a ≤ b → (r : Ordering) → r ≡ nat_cmp a b → is_gt r ≡ false
not_gt a b low Less is = refl
not_gt a b low Equal is = refl
not_gt a b low Greater is = let above : b < a = subst (λ (r : Ordering). MatchOrdering r (a < b) (a ≡ b) (b < a)) (sym is) (ranks a b) in absurd (omega arith)

pub within_le : (n a b : ℕ) → a ≤ b → is_gt (by_session (n, a) (n, b)) ≡ false
within_le n a b low = ap is_gt (within n a b) ∙ not_gt a b low (nat_cmp a b) refl

first_not_gt : (r s : Ordering) → is_gt (ordering_then r s) ≡ false → is_gt r ≡ false
first_not_gt Less s is = refl
first_not_gt Equal s is = refl
first_not_gt Greater s is = is

first_not_lt : (r s : Ordering) → is_lt (ordering_then r s) ≡ false → is_lt r ≡ false
first_not_lt Less s is = is
first_not_lt Equal s is = refl
first_not_lt Greater s is = refl

-- a run between two of one session is of that session
pub one_session : (m n a b c : ℕ) → is_gt (by_session (m, a) (n, c)) ≡ false → is_lt (by_session (m, a) (n, b)) ≡ false → m ≡ n
one_session m n a b c low high =
    let below : m ≤ n = le_from_not_gt m n (first_not_gt (nat_cmp m n) (nat_cmp a c) low) in
    let above : n ≤ m = ge_from_not_lt m n (first_not_lt (nat_cmp m n) (nat_cmp a b) high) in
    omega arith

-- new has this at a key, and at every other what old has
pub record Sets (old new : CookieRuns) (key : ℕ × ℕ) (value : Option ℕ) : Type 0 where
  pub here : get by_session new key ≡ value
  pub there : (other : ℕ × ℕ) → (other ≡ key → ⊥) → get by_session new other ≡ get by_session old other

apart_keys : (k q : ℕ × ℕ) → (b : Bool) → is_eq (by_session k q) ≡ b → (q ≡ k → ⊥) → b ≡ false
apart_keys k q true is other = absurd (other (sym (exact k q ((Equal-is (by_session k q)).0 is))))
apart_keys k q false is other = refl

pub sets_of : (old new : CookieRuns) (key : ℕ × ℕ) (value : Option ℕ) → Updates by_session old new key value → Sets old new key value
sets_of old new key value updates = record {
  here = updates.0 key ∙ ap (λ (b : Bool). cond b value (get by_session old key)) (ap is_eq (tied_itself total key));
  there = λ other apart. updates.0 other ∙ ap (λ (b : Bool). cond b value (get by_session old other)) (apart_keys key other _ refl apart);
}
