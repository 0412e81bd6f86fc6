-- A cookie that joins the runs beside it.
use Rattle.std.proofs.Common.{◌≡◌, ℕ, ◌+◌, ◌<◌, ◌≤◌, ◌⊎◌, inl, inr, Some, None, Option, unwrap_or, sym, ap, ◌∙◌, subst, arith}
use Rattle.std.proofs.lemmas.Bool.{cases_eq, cases_lt}
use Rattle.std.proofs.lemmas.Option.{none-some}
use Rattle.std.specs.BTreeMap.{get}
use Rattle.qs_cookies.specs.Used.{AreApart, IsBefore, IsInRun, IsRun, IsStart, CookieRuns, by_session}
use Rattle.qs_cookies.proofs.Runs.{Sets}

-- The cookie c of the session n isn't in a run of old, and new has one run from first to last in its place.
pub record Joins (old new : CookieRuns) (n c first last : ℕ) : Type 0 where
  pub good : AreApart old
  pub free : IsInRun old n c → ⊥
  pub first_is : (first ≡ c) ⊎ ((end : ℕ) × (IsRun old n first end × (end + 1 ≡ c)))
  pub behind : (last ≡ c) ⊎ (IsRun old n (c + 1) last)
  pub here : IsRun new n first last
  pub gone : c < last → (end : ℕ) → IsRun new n (c + 1) end → ⊥
  pub kept : (m a e : ℕ) → IsRun old m a e → ((m ≡ n) × (a ≡ first) → ⊥) → ((m ≡ n) × (a ≡ c + 1) × (c < last) → ⊥) → IsRun new m a e
  pub only : (m a e : ℕ) → IsRun new m a e → IsRun old m a e ⊎ ((m ≡ n) × (a ≡ first) × (e ≡ last))

one_end : (x y : ℕ) → Some x ≡ Some y → x ≡ y
one_end x y is = ap (λ (o : Option ℕ). unwrap_or o x) is

-- a cookie behind the last run that begins before it is in none
pub free_of : (runs : CookieRuns) (n c first last : ℕ) → AreApart runs → IsBefore runs n c first last → last < c → IsInRun runs n c → ⊥
free_of runs n c first last good before short (a, e, (run, low, high)) = elim (cases_eq a first) [
  | inl same ↦ let end = one_end e last (sym run ∙ subst (λ (k : ℕ). IsRun runs n k last) (sym same) before.is) in omega (arith, end, short, high)
  | inr other ↦
      let latest = before.latest a e run low in
      let past = good.apart n a e first last run before.is (omega (arith, latest, other)) in
      let begins = before.begins in
      omega (arith, past, begins, high)
]

pub one_key : (m a n b : ℕ) → ◌≡◌ {A = ℕ × ℕ} (m, a) (n, b) ⊎ ((m ≡ n) × (a ≡ b) → ⊥)
one_key m a n b = elim (cases_eq m n) [
  | inl one ↦ elim (cases_eq a b) [ inl two ↦ inl (λ i. (one i, two i)) | inr other ↦ inr (λ both. other both.1) ]
  | inr other ↦ inr (λ both. other both.0)
]

pub no_key : (m a n b : ℕ) → ((m ≡ n) × (a ≡ b) → ⊥) → ◌≡◌ {A = ℕ × ℕ} (m, a) (n, b) → ⊥
no_key m a n b other same = other (ap (λ (k : ℕ × ℕ). k.0) same, ap (λ (k : ℕ × ℕ). k.1) same)

-- a run of what was set is an old one, or the one that was set
only_set : (old new : CookieRuns) (key : ℕ × ℕ) (last : ℕ) → Sets old new key (Some last) → (m a e : ℕ) → IsRun new m a e →
    IsRun old m a e ⊎ ((m ≡ key.0) × (a ≡ key.1) × (e ≡ last))
only_set old new key last sets m a e now = elim (one_key m a key.0 key.1) [
  | inl same ↦ inr (
    ap (λ (k : ℕ × ℕ). k.0) same,
    ap (λ (k : ℕ × ℕ). k.1) same,
    one_end e last (sym now ∙ ap (get by_session new) same ∙ sets.here),
  )
  | inr other ↦ inl (sym (sets.there (m, a) (no_key m a key.0 key.1 other)) ∙ now)
]

-- one run was set
pub joins_alone : (old new : CookieRuns) (n c first last : ℕ) → AreApart old → IsStart old n c first → last ≡ c → Sets old new (n, first) (Some last) → Joins old new n c first last
joins_alone old new n c first last good start alone sets = record {
  good = good;
  free = start.free;
  first_is = start.is;
  behind = inl alone;
  here = sets.here;
  gone = λ more end run. absurd (omega (arith, alone, more));
  kept = λ m a e run other _. sets.there (m, a) (no_key m a n first other) ∙ run;
  only = λ m a e now. only_set old new (n, first) last sets m a e now;
}

-- one run was set, and the one behind it taken out
pub joins_both : (old mid new : CookieRuns) (n c first last : ℕ) → AreApart old → IsStart old n c first → IsRun old n (c + 1) last → c < last →
    Sets old mid (n, first) (Some last) → Sets mid new (n, c + 1) None → Joins old new n c first last
joins_both old mid new n c first last good start after longer sets takes = record {
  good = good;
  free = start.free;
  first_is = start.is;
  behind = inr after;
  here = takes.there (n, first) (no_key n first n (c + 1) (λ both. not_behind both.1)) ∙ sets.here;
  gone = λ more end run. none-some end (sym takes.here ∙ run);
  kept = λ m a e run other further.
      takes.there (m, a) (no_key m a n (c + 1) (λ both. further (both.0, both.1, longer))) ∙ sets.there (m, a) (no_key m a n first other) ∙ run;
  only = λ m a e now. elim (one_key m a n (c + 1)) [
    | inl same ↦ absurd (none-some e (sym takes.here ∙ sym (ap (get by_session new) same) ∙ now))
    | inr other ↦ only_set old mid (n, first) last sets m a e (sym (takes.there (m, a) (no_key m a n (c + 1) other)) ∙ now)
  ];
}
  where
    not_behind : first ≡ c + 1 → ⊥
    not_behind same = elim start.is [
      | inl is ↦ omega (arith, is, same)
      | inr before ↦ let low = good.forward n first before.0 before.1.0 in let next = before.1.1 in omega (arith, low, next, same)
    ]

module _ {old new : CookieRuns} {n c first last : ℕ} (j : Joins old new n c first last) where
  -- the run begins at the cookie or before it, and ends at it or behind it
  starts : first ≤ c
  starts = elim j.first_is [ inl is ↦ omega (arith, is) | inr before ↦ let low = j.good.forward n first before.0 before.1.0 in omega (arith, low, before.1.1) ]

  ends : c ≤ last
  ends = elim j.behind [ inl is ↦ omega (arith, is) | inr run ↦ let low = j.good.forward n (c + 1) last run in omega (arith, low) ]

  -- a run of the session that begins at the cookie or before it ends before it
  stops : (a e : ℕ) → IsRun old n a e → a ≤ c → e < c
  stops a e run low = elim (cases_lt e c) [ inl below ↦ below | inr above ↦ absurd (j.free (a, e, (run, low, above))) ]

  -- a run of the session that begins behind the new one's start lies behind its end
  lies_behind : (a e : ℕ) → IsRun new n a e → first < a → last < a
  lies_behind a e now above = elim (j.only n a e now) [
    | inr same ↦ let is = same.1 in absurd (omega (arith, is, above))
    | inl run ↦ elim (cases_lt c a) [
      | inr low ↦
          let short = stops a e run low in
          let fits = j.good.forward n a e run in
          elim j.first_is [
            | inl is ↦ absurd (omega (arith, is, low, above))
            | inr before ↦
                let past = j.good.apart n first before.0 a e before.1.0 run above in
                let next = before.1.1 in
                absurd (omega (arith, short, fits, past, next))
          ]
      | inl high ↦ elim j.behind [
        | inl is ↦ omega (arith, is, high)
        | inr after ↦ elim (cases_eq a (c + 1)) [
          | inl same ↦
              let fits = j.good.forward n (c + 1) last after in
              absurd (j.gone (omega (arith, fits)) e (subst (λ (k : ℕ). IsRun new n k e) same now))
          | inr other ↦ j.good.apart n (c + 1) last a e after run (omega (arith, high, other))
        ]
      ]
    ]
  ]

  -- a run of the session that begins before the new one ends before it
  lies_before : (a e : ℕ) → IsRun old n a e → a < first → e < first
  lies_before a e run below = elim j.first_is [
    | inl is ↦ let short = stops a e run (omega (arith, is, below)) in omega (arith, is, short)
    | inr before ↦ j.good.apart n a e first before.0 run before.1.0 below
  ]

  pub still_apart : AreApart new
  still_apart = record {
    forward = λ m a e now. elim (j.only m a e now) [
      | inl run ↦ j.good.forward m a e run
      | inr same ↦ let low = starts in let high = ends in let one = same.1 in let two = same.2 in omega (arith, low, high, one, two)
    ];
    apart = λ m a e b f left right below. elim (j.only m a e left) [
      | inr same ↦
          let end = same.2 in
          let behind = lies_behind b f (subst (λ (k : ℕ). IsRun new k b f) same.0 right) (subst (λ (k : ℕ). k < b) same.1 below) in
          omega (arith, end, behind)
      | inl run ↦ elim (j.only m b f right) [
        | inl other ↦ j.good.apart m a e b f run other below
        | inr same ↦
            let start = same.1 in
            let short = lies_before a e (subst (λ (k : ℕ). IsRun old k a e) same.0 run) (subst (λ (k : ℕ). a < k) same.1 below) in
            omega (arith, start, short)
      ]
    ];
  }

  -- what is in a run now was in one, or is the cookie
  pub was_in : (m x : ℕ) → IsInRun new m x → ((m ≡ n) × (x ≡ c)) ⊎ IsInRun old m x
  was_in m x (a, e, (now, low, high)) = elim (j.only m a e now) [
    | inl run ↦ inr (a, e, (run, low, high))
    | inr same ↦ within same.0 (subst (λ (k : ℕ). k ≤ x) same.1 low) (subst (λ (k : ℕ). x ≤ k) same.2 high)
  ]
    where
      before : m ≡ n → first ≤ x → x < c → IsInRun old m x
      before is above below = elim j.first_is [
        | inl same ↦ absurd (omega (arith, same, above, below))
        | inr run ↦ let next = run.1.1 in (first, run.0, (subst (λ (k : ℕ). IsRun old k first run.0) (sym is) run.1.0, above, omega (arith, below, next)))
      ]

      after : m ≡ n → x ≤ last → c < x → IsInRun old m x
      after is below above = elim j.behind [
        | inl same ↦ absurd (omega (arith, same, above, below))
        | inr run ↦ (c + 1, last, (subst (λ (k : ℕ). IsRun old k (c + 1) last) (sym is) run, omega (arith, above), below))
      ]

      within : m ≡ n → first ≤ x → x ≤ last → ((m ≡ n) × (x ≡ c)) ⊎ IsInRun old m x
      within is above below = elim (cases_eq x c) [
        | inl same ↦ inl (is, same)
        | inr other ↦ elim (cases_lt x c) [ inl less ↦ inr (before is above less) | inr more ↦ inr (after is below (omega (arith, more, other))) ]
      ]

  pub is_in : IsInRun new n c
  is_in = (first, last, (j.here, starts, ends))

  pub stays_in : (m x : ℕ) → IsInRun old m x → IsInRun new m x
  stays_in m x (a, e, (run, low, high)) = elim (cases_eq m n) [
    | inl is ↦ ours is
    | inr other ↦ (a, e, (j.kept m a e run (λ both. other both.0) (λ both. other both.0), low, high))
  ]
    where
      at_first : m ≡ n → a ≡ first → IsInRun new m x
      at_first is start =
          let here = subst (λ (k : ℕ). IsRun old n k e) start (subst (λ (k : ℕ). IsRun old k a e) is run) in
          let low_c = starts in
          let high_c = ends in
          let short = stops first e here low_c in
          (first, last, (subst (λ (k : ℕ). IsRun new k first last) (sym is) j.here, subst (λ (k : ℕ). k ≤ x) start low, omega (arith, high, short, high_c)))

      at_behind : m ≡ n → a ≡ c + 1 → c < last → IsInRun new m x
      at_behind is start longer = elim j.behind [
        | inl same ↦ absurd (omega (arith, same, longer))
        | inr after ↦
            let here = subst (λ (k : ℕ). IsRun old n k e) start (subst (λ (k : ℕ). IsRun old k a e) is run) in
            let end = one_end e last (sym here ∙ after) in
            let low_c = starts in
            (first, last, (subst (λ (k : ℕ). IsRun new k first last) (sym is) j.here, omega (arith, low, start, low_c), omega (arith, high, end)))
      ]

      ours : m ≡ n → IsInRun new m x
      ours is = elim (cases_eq a first) [
        | inl start ↦ at_first is start
        | inr other ↦ elim (cases_eq a (c + 1)) [
          | inl start ↦ elim (cases_lt c last) [
            | inl longer ↦ at_behind is start longer
            | inr none ↦ (a, e, (j.kept m a e run (λ both. other both.1) (λ both. let more = both.2 in absurd (omega (arith, none, more))), low, high))
          ]
          | inr elsewhere ↦ (a, e, (j.kept m a e run (λ both. other both.1) (λ both. elsewhere both.1), low, high))
        ]
      ]
