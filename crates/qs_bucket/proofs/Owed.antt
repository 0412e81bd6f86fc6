-- What is owed after one admission more.
use Rattle.std.proofs.Common.{◌≡◌, ◌≢◌, ℕ, ◌+◌, ◌-◌, ◌*◌, ◌≤◌, List, [], ◌∷◌, ◌++◌, Bool, true, false, refl, sym, ◌∙◌, ap, arith, cond}
use Rattle.std.proofs.lemmas.Bool.Decides.{nat_tests}
use Rattle.std.specs.Prelude.{max, ◌==◌}
use Rattle.qs_bucket.specs.Admissions.{Admission, units_of, owed, UpTo}
use Rattle.qs_bucket.specs.Level.{LevelValue, effective, level_at, level_added, IsOwedBy}

-- what leaks while d passes leaks in its two parts
pub spread : (rate d e f : ℕ) → d ≡ e + f → rate * d ≡ rate * e + rate * f
spread rate d e f h = rw h (omega arith)

-- leaking twice leaks once, whether or not the level is empty between
pub two_leaks : (a s o u x y z : ℕ) → z ≡ y + x → max ((a + (s + u)) - z) ((o + u) - y) ≡ (max ((a + s) - x) o + u) - y
two_leaks a s o u x y z h = omega arith

pub units_of-append : (xs ys : List Admission) → units_of (xs ++ ys) ≡ units_of xs + units_of ys
units_of-append [] ys = omega arith
units_of-append (a ∷ xs) ys = omega (arith, units_of-append xs ys)

pub UpTo-later : (xs : List Admission) (t u : ℕ) → t ≤ u → UpTo t xs → UpTo u xs
UpTo-later [] t u h upto = tt
UpTo-later (a ∷ xs) t u h upto = (omega (arith, upto.0), UpTo-later xs t u h upto.1)

pub UpTo-append : (xs : List Admission) (a : Admission) (t : ℕ) → UpTo t xs → a.reading ≤ t → UpTo t (xs ++ a ∷ [])
UpTo-append [] a t upto h = (h, tt)
UpTo-append (x ∷ xs) a t upto h = (upto.0, UpTo-append xs a t upto.1 h)

-- what is owed after one admission more: what was owed at its reading and its units, less what leaked since
pub owed_more : (rate : ℕ) (xs : List Admission) (b : Admission) (t : ℕ) → UpTo b.reading xs → b.reading ≤ t →
    owed rate (xs ++ b ∷ []) t ≡ (owed rate xs b.reading + b.units) - rate * (t - b.reading)
owed_more rate [] b t upto h = omega arith
owed_more rate (a ∷ xs) b t upto h =
    let both : rate * (t - a.reading) ≡ rate * (t - b.reading) + rate * (b.reading - a.reading) =
    spread rate (t - a.reading) (t - b.reading) (b.reading - a.reading) (omega (arith, upto.0)) in
    let sum : units_of (xs ++ b ∷ []) ≡ units_of xs + b.units = units_of-append xs (b ∷ []) ∙ omega arith in
    let rest : owed rate (xs ++ b ∷ []) t ≡ (owed rate xs b.reading + b.units) - rate * (t - b.reading) = owed_more rate xs b t upto.1 h in
    rw (sum, rest) (two_leaks a.units (units_of xs) (owed rate xs b.reading) b.units _ _ _ both)

-- a level that is what its admissions owe stays so as one more is counted
pub owed_added : (b : LevelValue) (xs : List Admission) (now units : ℕ) → b.rate ≢ 0 → IsOwedBy b xs →
    IsOwedBy (level_added b now units) (xs ++ record { reading = effective b now; units = units } ∷ [])
owed_added b xs now units some stands = go (b.rate == 0) refl
  where
    more : List Admission
    more = xs ++ record { reading = effective b now; units = units } ∷ []

    go : (z : Bool) → (b.rate == 0) ≡ z →
        IsOwedBy (cond z b (record { rate = b.rate; bucket = b.bucket; level = level_at b (effective b now) + units; last = effective b now })) more
    go true e = absurd (some (grind (arith, nat_tests)))
    go false e = record {
      upto = UpTo-append xs _ (effective b now) later (omega arith);
      owes = λ t h. sym (owed_more b.rate xs _ t later h ∙ ap (λ (o : ℕ). (o + units) - b.rate * (t - effective b now)) (sym (stands.owes (effective b now) (omega arith))));
    }
      where
        later : UpTo (effective b now) xs
        later = UpTo-later xs b.last (effective b now) (omega arith) stands.upto
