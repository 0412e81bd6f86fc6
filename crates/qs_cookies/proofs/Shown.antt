-- The set of the cookies that runs show.
use Rattle.std.proofs.Common.{◌≡◌, ℕ, zero, suc, ◌+◌, ◌-◌, ◌<◌, ◌≤◌, ◌⊎◌, inl, inr, List, [], ◌∷◌, Some, Option, Bool, true, false, ◌||◌, refl, sym, ap, ◌∙◌, subst, arith, unwrap_or, true≢false, None, MatchOption, is_none}
use Rattle.std.specs.BTreeMap.{IsOrdered, is_at}
use Rattle.std.specs.Cmp.{Equal-is, both_ways, tied_itself}
use Rattle.std.specs.List.{list_any, slice_get}
use Rattle.std.specs.Ordering.{eq_by_cmp, is_eq}
use Rattle.std.specs.FinSet.{FinSet, contains, contains-from_list, contains-insert, from_list, insert, same_set, IsAntisymmetric}
use Rattle.std.proofs.lemmas.Bool.{cases_eq}
use Rattle.std.proofs.lemmas.List.Folds.{list_any-append}
use Rattle.std.proofs.lemmas.Option.{none-some}
use Rattle.std.proofs.lemmas.Map.Entries.{btree_map_get_place, place_from_lookup}
use Rattle.qs_cookies.specs.Used.{IsInRun, IsRun, IsStart, CookieRuns, by_session, cookies_from, cookies_of}
use Rattle.qs_cookies.proofs.Joined.{Joins, is_in, stays_in, was_in}
use Rattle.qs_cookies.proofs.Runs.{exact, total}

abbrev Run : Type 0
Run = (ℕ × ℕ) × ℕ

-- a cookie of a run
abbrev IsOf : Run → ℕ × ℕ → Type 0
IsOf run q = (q.0 ≡ run.0.0) × (run.0.1 ≤ q.1) × (q.1 ≤ run.1)

abbrev has : List (ℕ × ℕ) → ℕ × ℕ → Bool
has ks q = list_any (eq_by_cmp by_session q) ks

same_key : (q k : ℕ × ℕ) → eq_by_cmp by_session q k ≡ true → q ≡ k
same_key q k is = exact q k ((Equal-is (by_session q k)).0 is)

itself : (q : ℕ × ℕ) → eq_by_cmp by_session q q ≡ true
itself q = ap is_eq (tied_itself total q)

or_true : (a b : Bool) → (a || b) ≡ true → (a ≡ true) ⊎ (b ≡ true)
or_true true b is = inl refl
or_true false b is = inr is

true_or : (a b : Bool) → a ≡ true → (a || b) ≡ true
true_or a b is = ap (λ (x : Bool). x || b) is

or_right : (a b : Bool) → b ≡ true → (a || b) ≡ true
or_right true b is = refl
or_right false b is = is

from_has : (n first count : ℕ) (q : ℕ × ℕ) → has (cookies_from n first count) q ≡ true → (q.0 ≡ n) × (first ≤ q.1) × (q.1 < first + count)
from_has n first zero q is = absurd (true≢false (sym is))
from_has n first (suc count) q is = elim (or_true (eq_by_cmp by_session q (n, first)) _ is) [
  | inl here ↦
      let same = same_key q (n, first) here in
      let cookie : q.1 ≡ first = ap (λ (k : ℕ × ℕ). k.1) same in
      (ap (λ (k : ℕ × ℕ). k.0) same, omega (arith, cookie), omega (arith, cookie))
  | inr later ↦ let more = from_has n (suc first) count q later in let low = more.1 in let high = more.2 in (more.0, omega (arith, low), omega (arith, high))
]

has_from : (n first count x : ℕ) → first ≤ x → x < first + count → has (cookies_from n first count) (n, x) ≡ true
has_from n first zero x low high = absurd (omega (arith, low, high))
has_from n first (suc count) x low high = elim (cases_eq x first) [
  | inl same ↦ true_or _ _ (subst (λ (k : ℕ). eq_by_cmp by_session (n, x) (n, k) ≡ true) same (itself (n, x)))
  | inr other ↦ or_right _ _ (has_from n (suc first) count x (omega (arith, low, other)) (omega (arith, high)))
]

first_shows : (run : Run) (q : ℕ × ℕ) → IsOf run q → has (cookies_from run.0.0 run.0.1 (suc run.1 - run.0.1)) q ≡ true
first_shows run q of =
    let low = of.1 in
    let high = of.2 in
    subst (λ (k : ℕ × ℕ). has (cookies_from run.0.0 run.0.1 (suc run.1 - run.0.1)) k ≡ true) (ap (λ (k : ℕ). (k, q.1)) (sym of.0))
    (has_from run.0.0 run.0.1 (suc run.1 - run.0.1) q.1 low (omega (arith, low, high)))

-- a run at a place shows its cookies
shows : (runs : List Run) (i : ℕ) (run : Run) (q : ℕ × ℕ) → slice_get runs i ≡ Some run → IsOf run q → has (cookies_of runs) q ≡ true
shows [] i run q at of = absurd (none-some run at)
shows (r ∷ runs) zero run q at of =
    list_any-append (eq_by_cmp by_session q) _ (cookies_of runs)
    ∙ true_or _ _ (first_shows r q (subst (λ (k : Run). IsOf k q) (sym (ap (λ (o : Option Run). unwrap_or o run) at)) of))
shows (r ∷ runs) (suc i) run q at of = list_any-append (eq_by_cmp by_session q) _ (cookies_of runs) ∙ or_right _ _ (shows runs i run q at of)

-- a shown cookie is of a run at a place
shown : (runs : List Run) (q : ℕ × ℕ) → has (cookies_of runs) q ≡ true → (i : ℕ) × (run : Run) × ((slice_get runs i ≡ Some run) × IsOf run q)
shown [] q is = absurd (true≢false (sym is))
shown (r ∷ runs) q is = elim (or_true (has (cookies_from r.0.0 r.0.1 (suc r.1 - r.0.1)) q) _ (sym (list_any-append (eq_by_cmp by_session q) _ (cookies_of runs)) ∙ is)) [
  | inl here ↦ let of = from_has r.0.0 r.0.1 (suc r.1 - r.0.1) q here in let low = of.1 in let high = of.2 in (0, r, (refl, (of.0, low, omega (arith, low, high))))
  | inr later ↦ let more = shown runs q later in (suc more.0, more.1, more.2)
]

pub contains_in : (m : CookieRuns) (n x : ℕ) → IsOrdered by_session m → contains (from_list {R = by_session} (cookies_of m.entries)) (n, x) ≡ true → IsInRun m n x
contains_in m n x ordered is =
    let found = shown m.entries (n, x) (sym (contains-from_list total (cookies_of m.entries) (n, x)) ∙ is) in
    let run = found.1 in
    let there = btree_map_get_place total m found.0 run.0 run.1 ordered found.2.0 in
    let of = found.2.1 in
    (run.0.1, run.1, (subst (λ (k : ℕ). IsRun m k run.0.1 run.1) (sym of.0) there, of.1, of.2))

pub in_contains : (m : CookieRuns) (n x : ℕ) → IsInRun m n x → contains (from_list {R = by_session} (cookies_of m.entries)) (n, x) ≡ true
in_contains m n x (first, last, (run, low, high)) =
    let found = place_from_lookup (is_at (by_session (n, first))) m.entries last run in
    let key = same_key (n, first) found.1 found.3 in
    contains-from_list total (cookies_of m.entries) (n, x)
    ∙ shows m.entries found.0 (found.1, last) (n, x) found.2
    (ap (λ (k : ℕ × ℕ). k.0) key, subst (λ (k : ℕ). k ≤ x) (ap (λ (k : ℕ × ℕ). k.1) key) low, high)

-- the order has no ties but of equal keys
antisymmetric : IsAntisymmetric by_session
antisymmetric = exact

pub one_set : (s t : FinSet by_session) → ((n x : ℕ) → (contains s (n, x) ≡ true → contains t (n, x) ≡ true) × (contains t (n, x) ≡ true → contains s (n, x) ≡ true)) → s ≡ t
one_set s t alike = same_set total antisymmetric s t (λ q. both_ways _ _ (alike q.0 q.1).0 (alike q.0 q.1).1)

pub inserted : (s : FinSet by_session) (n c m x : ℕ) → contains (insert s (n, c)) (m, x) ≡ true → ((m ≡ n) × (x ≡ c)) ⊎ (contains s (m, x) ≡ true)
inserted s n c m x is = elim (or_true (eq_by_cmp by_session (m, x) (n, c)) _ (sym (contains-insert total s (n, c) (m, x)) ∙ is)) [
  | inl here ↦ let same = same_key (m, x) (n, c) here in inl (ap (λ (k : ℕ × ℕ). k.0) same, ap (λ (k : ℕ × ℕ). k.1) same)
  | inr there ↦ inr there
]

pub insert_has : (s : FinSet by_session) (n c : ℕ) → contains (insert s (n, c)) (n, c) ≡ true
insert_has s n c = contains-insert total s (n, c) (n, c) ∙ true_or _ _ (itself (n, c))

pub insert_keeps : (s : FinSet by_session) (k q : ℕ × ℕ) → contains s q ≡ true → contains (insert s k) q ≡ true
insert_keeps s k q is = contains-insert total s k q ∙ or_right _ _ is

-- a cookie is contained where no run begins for it
pub contained : (m : CookieRuns) (n x : ℕ) (start : Option ℕ) → IsOrdered by_session m → MatchOption start (IsInRun m n x) (λ first. IsStart m n x first) →
    is_none start ≡ contains (from_list {R = by_session} (cookies_of m.entries)) (n, x)
contained m n x None ordered run = sym (in_contains m n x run)
contained m n x (Some first) ordered start = both_ways _ _ (λ no. absurd (true≢false (sym no))) (λ is. absurd (start.free (contains_in m n x ordered is)))

-- a cookie in a run is in the set already
pub kept_set : (m : CookieRuns) (n c : ℕ) → IsInRun m n c →
    from_list {R = by_session} (cookies_of m.entries) ≡ insert (from_list (cookies_of m.entries)) (n, c)
kept_set m n c run = one_set _ _ (λ k x. (
  insert_keeps _ (n, c) (k, x),
  λ is. elim (inserted _ n c k x is) [
    | inl here ↦ in_contains m k x (subst (λ (j : ℕ). IsInRun m j x) (sym here.0) (subst (λ (y : ℕ). IsInRun m n y) (sym here.1) run))
    | inr there ↦ there
  ],
))

-- the set of the runs that a cookie joined
pub joined_set : (old new : CookieRuns) (n c first last : ℕ) → IsOrdered by_session old → IsOrdered by_session new → Joins old new n c first last →
    from_list {R = by_session} (cookies_of new.entries) ≡ insert (from_list (cookies_of old.entries)) (n, c)
joined_set old new n c first last one two j = one_set _ _ (λ m x. (λ is. into m x (was_in j m x (contains_in new m x two is)), λ is. out m x (inserted _ n c m x is)))
  where
    into : (m x : ℕ) → ((m ≡ n) × (x ≡ c)) ⊎ IsInRun old m x → contains (insert (from_list {R = by_session} (cookies_of old.entries)) (n, c)) (m, x) ≡ true
    into m x (inl here) = subst (λ (k : ℕ × ℕ). contains (insert (from_list {R = by_session} (cookies_of old.entries)) (n, c)) k ≡ true) (λ i. (sym here.0 i, sym here.1 i)) (insert_has _ n c)
    into m x (inr run) = insert_keeps _ (n, c) (m, x) (in_contains old m x run)

    out : (m x : ℕ) → ((m ≡ n) × (x ≡ c)) ⊎ (contains (from_list {R = by_session} (cookies_of old.entries)) (m, x) ≡ true) →
        contains (from_list {R = by_session} (cookies_of new.entries)) (m, x) ≡ true
    out m x (inl here) = in_contains new m x (subst (λ (k : ℕ). IsInRun new k x) (sym here.0) (subst (λ (y : ℕ). IsInRun new n y) (sym here.1) (is_in j)))
    out m x (inr there) = in_contains new m x (stays_in j m x (contains_in old m x one there))
