-- A window admits no more than the rule allows.
use Rattle.std.proofs.Common.{◌≡◌, ◌≢◌, ℕ, ◌+◌, ◌-◌, ◌*◌, ◌≤◌, List, [], ◌∷◌, ◌++◌, Bool, true, false, refl, ap, arith, inl, inr, ◌⊎◌, cond, nat_le}
use Rattle.std.proofs.lemmas.Bool.Decides.{nat_tests}
use Rattle.qs_bucket.proofs.Ceil.{none_of_ceil}
use Rattle.qs_bucket.proofs.Owed.{spread, units_of-append, UpTo-later}
use Rattle.qs_bucket.specs.Level.{LevelValue, effective, level_at, wait_at, IsOwedBy}
use Rattle.std.specs.Prelude.{max, ◌&&◌, ◌==◌}
use Rattle.std.specs.Int.{div_ceil}
use Rattle.qs_bucket.specs.Admissions.{Admission, units_of, owed, UpTo, window, last_units, AdmittedByRule}

-- a window has no more than the whole
pub units_of-window : (t1 t2 : ℕ) (xs : List Admission) → units_of (window t1 t2 xs) ≤ units_of xs
units_of-window t1 t2 [] = omega arith
units_of-window t1 t2 (a ∷ xs) = go (nat_le t1 a.reading && nat_le a.reading t2) (units_of-window t1 t2 xs)
  where
    go : (b : Bool) → units_of (window t1 t2 xs) ≤ units_of xs → units_of (cond b (a ∷ window t1 t2 xs) (window t1 t2 xs)) ≤ a.units + units_of xs
    go true rest = omega arith
    go false rest = omega arith

-- what leaks in a part of the time is no more than what leaks in all of it
pub leaks_less : (rate d e : ℕ) → d ≤ e → rate * d ≤ rate * e
leaks_less rate d e h = omega (arith, spread rate e d (e - d) (omega arith))

-- a window up to now admitted no more than what is owed now and what leaked since the window began
pub units_owed : (rate t1 t2 t : ℕ) (xs : List Admission) → UpTo t xs → t1 ≤ t →
    units_of (window t1 t2 xs) ≤ owed rate xs t + rate * (t - t1)
units_owed rate t1 t2 t [] upto h = omega arith
units_owed rate t1 t2 t (a ∷ xs) upto h = go (nat_le t1 a.reading && nat_le a.reading t2) refl (units_owed rate t1 t2 t xs upto.1 h)
  where
    go : (b : Bool) → (nat_le t1 a.reading && nat_le a.reading t2) ≡ b → units_of (window t1 t2 xs) ≤ owed rate xs t + rate * (t - t1) →
        units_of (cond b (a ∷ window t1 t2 xs) (window t1 t2 xs)) ≤ max (units_of (a ∷ xs) - rate * (t - a.reading)) (owed rate xs t) + rate * (t - t1)
    go true inside rest =
        let from : t1 ≤ a.reading = grind (arith, nat_tests) in
        omega (arith, units_of-window t1 t2 xs, leaks_less rate (t - a.reading) (t - t1) (omega arith))
    go false outside rest = omega arith

-- the last admission of a window, and the window of those before it
pub record Last (t1 t2 : ℕ) (xs : List Admission) : Type 0 where
  pub before : List Admission
  pub a : Admission
  pub rest : List Admission
  pub split : before ++ a ∷ rest ≡ xs
  pub inside : (t1 ≤ a.reading) × (a.reading ≤ t2)
  pub ends : window t1 t2 xs ≡ window t1 t2 before ++ a ∷ []

pub last_of : (t1 t2 : ℕ) (xs : List Admission) → (window t1 t2 xs ≡ []) ⊎ Last t1 t2 xs
last_of t1 t2 [] = inl refl
last_of t1 t2 (a ∷ xs) = go (nat_le t1 a.reading && nat_le a.reading t2) refl (last_of t1 t2 xs)
  where
    go : (b : Bool) → (nat_le t1 a.reading && nat_le a.reading t2) ≡ b → (window t1 t2 xs ≡ []) ⊎ Last t1 t2 xs →
        (cond b (a ∷ window t1 t2 xs) (window t1 t2 xs) ≡ []) ⊎ Last t1 t2 (a ∷ xs)
    go true inside (inl none) = inr (record {
      before = [];
      a = a;
      rest = xs;
      split = refl;
      inside = (grind (arith, nat_tests), grind (arith, nat_tests));
      ends = rw inside (ap (λ (w : List Admission). a ∷ w) none);
    })
    go false outside (inl none) = inl none
    go true inside (inr l) = inr (record {
      before = a ∷ l.before;
      a = l.a;
      rest = l.rest;
      split = ap (λ (w : List Admission). a ∷ w) l.split;
      inside = l.inside;
      ends = rw inside (ap (λ (w : List Admission). a ∷ w) l.ends);
    })
    go false outside (inr l) = inr (record {
      before = a ∷ l.before;
      a = l.a;
      rest = l.rest;
      split = ap (λ (w : List Admission). a ∷ w) l.split;
      inside = l.inside;
      ends = rw outside l.ends;
    })

pub last_units-append : (xs : List Admission) (a : Admission) → last_units (xs ++ a ∷ []) ≡ a.units
last_units-append [] a = refl
last_units-append (x ∷ []) a = refl
last_units-append (x ∷ y ∷ xs) a = last_units-append (y ∷ xs) a

-- any window admits at most the bucket, the rate times the time that passed, and its last request
pub windows_hold : (rate bucket : ℕ) (xs : List Admission) (t1 t2 : ℕ) → t1 ≤ t2 → AdmittedByRule rate bucket xs →
    units_of (window t1 t2 xs) ≤ bucket + rate * (t2 - t1) + last_units (window t1 t2 xs)
windows_hold rate bucket xs t1 t2 h rule = go (last_of t1 t2 xs)
  where
    go : (window t1 t2 xs ≡ []) ⊎ Last t1 t2 xs → units_of (window t1 t2 xs) ≤ bucket + rate * (t2 - t1) + last_units (window t1 t2 xs)
    go (inl none) = rw none (omega arith)
    go (inr l) =
        let here : UpTo l.a.reading l.before × (owed rate l.before l.a.reading ≤ bucket) = rule l.before l.a l.rest l.split in
        let earlier : units_of (window t1 t2 l.before) ≤ owed rate l.before l.a.reading + rate * (l.a.reading - t1) =
        units_owed rate t1 t2 l.a.reading l.before here.0 l.inside.0 in
        let less : rate * (l.a.reading - t1) ≤ rate * (t2 - t1) = leaks_less rate (l.a.reading - t1) (t2 - t1) (omega (arith, l.inside.1)) in
        rw (l.ends, units_of-append, last_units-append) (omega (arith, here.1))

-- nothing was admitted, by any rule
pub rule_none : (rate bucket : ℕ) → AdmittedByRule rate bucket []
rule_none rate bucket [] a rest e = absurd (cc)
rule_none rate bucket (b ∷ before) a rest e = absurd (cc)

-- where a list is split before its last element, or at it
pub split_last : (before : List Admission) (a : Admission) (rest xs : List Admission) (b : Admission) → before ++ a ∷ rest ≡ xs ++ b ∷ [] →
    ((before ≡ xs) × (a ≡ b)) ⊎ ((rest' : List Admission) × (before ++ a ∷ rest' ≡ xs))
split_last [] a rest [] b e = inl (refl, cc)
split_last [] a rest (x ∷ xs) b e = inr (xs, cc)
split_last (y ∷ before) a rest [] b e = absurd (no before e)
  where
    no : (zs : List Admission) → y ∷ (zs ++ a ∷ rest) ≡ b ∷ [] → ⊥
    no [] f = cc
    no (z ∷ zs) f = cc
split_last (y ∷ before) a rest (x ∷ xs) b e = go (split_last before a rest xs b (cc))
  where
    same : y ≡ x
    same = cc

    go : ((before ≡ xs) × (a ≡ b)) ⊎ ((rest' : List Admission) × (before ++ a ∷ rest' ≡ xs)) →
        ((y ∷ before ≡ x ∷ xs) × (a ≡ b)) ⊎ ((rest' : List Admission) × (y ∷ (before ++ a ∷ rest') ≡ x ∷ xs))
    go (inl (f, g)) = inl (cc, g)
    go (inr (rest', f)) = inr (rest', cc)

-- one admission more by the rule
pub rule_more : (rate bucket : ℕ) (xs : List Admission) (b : Admission) → AdmittedByRule rate bucket xs → UpTo b.reading xs →
    owed rate xs b.reading ≤ bucket → AdmittedByRule rate bucket (xs ++ b ∷ [])
rule_more rate bucket xs b rule upto within before a rest e = go (split_last before a rest xs b e)
  where
    go : ((before ≡ xs) × (a ≡ b)) ⊎ ((rest' : List Admission) × (before ++ a ∷ rest' ≡ xs)) →
        UpTo a.reading before × (owed rate before a.reading ≤ bucket)
    go (inl (f, g)) = rw (f, g) (upto, within)
    go (inr (rest', f)) = rule before a rest' f

-- a level that asks for no wait holds at most its bucket
pub below_bucket : (b : LevelValue) (now : ℕ) → b.rate ≢ 0 → wait_at b now ≡ 0 → level_at b (effective b now) ≤ b.bucket
below_bucket b now some = go (b.rate == 0) refl
  where
    go : (z : Bool) → (b.rate == 0) ≡ z → cond z 0 (div_ceil (level_at b (effective b now) - b.bucket) b.rate) ≡ 0 → level_at b (effective b now) ≤ b.bucket
    go true e none = absurd (some (grind (arith, nat_tests)))
    go false e none = none_of_ceil (level_at b (effective b now)) b.bucket b.rate none (omega arith)

-- a level that counts what it let go admits by the rule
pub rule_added : (b : LevelValue) (xs : List Admission) (now units : ℕ) → b.rate ≢ 0 → IsOwedBy b xs → wait_at b now ≡ 0 →
    AdmittedByRule b.rate b.bucket xs → AdmittedByRule b.rate b.bucket (xs ++ record { reading = effective b now; units = units } ∷ [])
rule_added b xs now units some stands none rule =
    rule_more b.rate b.bucket xs _ rule (UpTo-later xs b.last (effective b now) (omega arith) stands.upto)
    (rw (← stands.owes (effective b now) (omega arith)) (below_bucket b now some none))
