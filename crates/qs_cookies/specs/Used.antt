-- The cookies that sessions used, as runs.
use Rattle.std.specs.Prelude.{◌≡◌, ℕ, suc, ◌+◌, ◌-◌, ◌<◌, ◌≤◌, ◌⊎◌, List, [], ◌∷◌, ◌++◌, Some, zero}
use Rattle.std.specs.Ordering.{nat_cmp, ordering_then}
use Rattle.std.specs.BTreeMap.{BTreeMap, get}
use Rattle.std.specs.declared.cmp.Ordering.{Ordering}

-- by session, and then by cookie
abbrev pub by_session : ℕ × ℕ → ℕ × ℕ → Ordering
by_session x y = ordering_then (nat_cmp x.0 y.0) (nat_cmp x.1 y.1)

-- so many cookies of a session, from the first on
abbrev pub cookies_from : ℕ → ℕ → ℕ → List (ℕ × ℕ)
cookies_from session first zero = []
cookies_from session first (suc n) = (session, first) ∷ cookies_from session (suc first) n

-- the cookies of runs, each of which has its session and its first cookie, and its last
abbrev pub cookies_of : List ((ℕ × ℕ) × ℕ) → List (ℕ × ℕ)
cookies_of [] = []
cookies_of (run ∷ runs) = cookies_from run.0.0 run.0.1 (suc run.1 - run.0.1) ++ cookies_of runs

abbrev pub CookieRuns : Type 0
CookieRuns = BTreeMap (ℕ × ℕ) ℕ

-- a run of the session has this first and this last cookie
abbrev pub IsRun : CookieRuns → ℕ → ℕ → ℕ → Type 0
IsRun runs session first last = get by_session runs (session, first) ≡ Some last

-- each run goes forward, and ends before the next of its session begins
pub record AreApart (runs : CookieRuns) : Type 0 where
  pub forward : (session first last : ℕ) → IsRun runs session first last → first ≤ last
  pub apart : (session first last next end : ℕ) → IsRun runs session first last → IsRun runs session next end →
      first < next → last < next

-- a cookie of the session is in a run
abbrev pub IsInRun : CookieRuns → ℕ → ℕ → Type 0
IsInRun runs session cookie = (first : ℕ) × (last : ℕ)
    × (IsRun runs session first last × (first ≤ cookie) × (cookie ≤ last))

-- the last run of the session that begins at the cookie or before it
pub record IsBefore (runs : CookieRuns) (session cookie first last : ℕ) : Type 0 where
  pub is : IsRun runs session first last
  pub begins : first ≤ cookie
  pub latest : (other end : ℕ) → IsRun runs session other end → other ≤ cookie → other ≤ first

-- no run of the session begins at the cookie or before it
abbrev pub HasNoneBefore : CookieRuns → ℕ → ℕ → Type 0
HasNoneBefore runs session cookie = (first last : ℕ) → IsRun runs session first last → first ≤ cookie → ⊥

-- The cookie is in no run, and a run with it begins at the cookie, or where the run begins that ends right before it.
pub record IsStart (runs : CookieRuns) (session cookie first : ℕ) : Type 0 where
  pub free : IsInRun runs session cookie → ⊥
  pub is : (first ≡ cookie) ⊎ ((end : ℕ) × (IsRun runs session first end × (end + 1 ≡ cookie)))

-- The last cookie of the run that begins right behind the cookie; the cookie itself where none does.
abbrev pub IsEndBehind : CookieRuns → ℕ → ℕ → ℕ → Type 0
IsEndBehind runs session cookie last = IsRun runs session (cookie + 1) last ⊎ (last ≡ cookie)
