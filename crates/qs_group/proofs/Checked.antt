-- Limits that break no rule are good.
use Rattle.std.proofs.Common.{◌≡◌, ℕ, ◌<◌, List, [], ◌∷◌, length, get_or, Bool, true, false, cond, not, Some, None, refl, arith, lit<, zero, suc}
use Rattle.std.specs.Prelude.{find, ◌==◌, ◌&&◌, ◌*◌, ◌^◌, ◌≤◌, nat_lt}
use Rattle.std.proofs.lemmas.Bool.Decides.{nat_tests}
use Rattle.qs_part.specs.declared.limits.Dim.{Dim}
use Rattle.qs_part.specs.declared.limits.Dim.TheVariants.{BpsTotal, BpsRead, BpsWrite, IopsTotal, IopsRead, IopsWrite}
use Rattle.qs_part.specs.declared.limits.Limit.{Limit}
use Rattle.qs_part.specs.declared.limits.Limits.{Limits}
use Rattle.qs_part.specs.declared.limits.Rule.TheVariants.{BurstZero}
use Rattle.qs_part.specs.Limits.{limit_of, passes_greatest, passes_greatest_burst, breaks, rules_in_order, first_broken}
use Rattle.qs_group.specs.Budget.{IsGood}

-- where nothing passes the test, no place passes it
pub none_at : {X : Type 0} (p : X → Bool) (xs : List X) (i : ℕ) (d : X) → find p xs ≡ None → i < length xs → p (get_or xs i d) ≡ false
none_at p [] i d none below = absurd (omega arith)
none_at p (x ∷ xs) zero d none below = head (p x) refl none
  where
    head : (b : Bool) → p x ≡ b → cond b (Some x) (find p xs) ≡ None → p x ≡ false
    head true e f = absurd (cc)
    head false e f = e
none_at p (x ∷ xs) (suc k) d none below = none_at p xs k d (rest (p x) none) (omega arith)
  where
    rest : (b : Bool) → cond b (Some x) (find p xs) ≡ None → find p xs ≡ None
    rest true f = absurd (cc)
    rest false f = f

pub good_from : (x : Limit) → passes_greatest x ≡ false → (not (x.max == 0) && x.avg == 0) ≡ false →
    (nat_lt 1 x.burst_length && x.max == 0) ≡ false →
    passes_greatest_burst x ≡ false → IsGood x
good_from x small with_avg with_max small_burst = record {
  avg = grind (arith, nat_tests);
  max_rate = grind (arith, nat_tests);
  burst = go (x.max == 0) refl small_burst;
  has_max = λ h. grind (arith, nat_tests);
  has_avg = λ h. grind (arith, nat_tests);
}
  where
    go : (z : Bool) → (x.max == 0) ≡ z → (not z && nat_lt (10 ^ 15) (x.max * x.burst_length)) ≡ false →
        x.max * x.burst_length ≤ 10 ^ 15
    go true e h = let none : x.max ≡ 0 = grind (arith, nat_tests) in rw none (omega arith)
    go false e h = grind (arith, nat_tests)

-- no rule is broken, at its place
pub unbroken : (l : Limits) → first_broken l ≡ None → (i : ℕ) → i < 42 →
    breaks l (get_or rules_in_order i (BurstZero BpsTotal)) ≡ false
unbroken l none i below = none_at (breaks l) rules_in_order i (BurstZero BpsTotal) none below

-- each limit of limits that break no rule is good
pub good : (l : Limits) (d : Dim) → first_broken l ≡ None → IsGood (limit_of l d)
good l BpsTotal none =
    good_from l.bps_total (unbroken l none 0 (lit< tt)) (unbroken l none 12 (lit< tt))
    (unbroken l none 30 (lit< tt)) (unbroken l none 36 (lit< tt))
good l BpsRead none =
    good_from l.bps_read (unbroken l none 1 (lit< tt)) (unbroken l none 13 (lit< tt))
    (unbroken l none 31 (lit< tt)) (unbroken l none 37 (lit< tt))
good l BpsWrite none =
    good_from l.bps_write (unbroken l none 2 (lit< tt)) (unbroken l none 14 (lit< tt))
    (unbroken l none 32 (lit< tt)) (unbroken l none 38 (lit< tt))
good l IopsTotal none =
    good_from l.iops_total (unbroken l none 3 (lit< tt)) (unbroken l none 15 (lit< tt))
    (unbroken l none 33 (lit< tt)) (unbroken l none 39 (lit< tt))
good l IopsRead none =
    good_from l.iops_read (unbroken l none 4 (lit< tt)) (unbroken l none 16 (lit< tt))
    (unbroken l none 34 (lit< tt)) (unbroken l none 40 (lit< tt))
good l IopsWrite none =
    good_from l.iops_write (unbroken l none 5 (lit< tt)) (unbroken l none 17 (lit< tt))
    (unbroken l none 35 (lit< tt)) (unbroken l none 41 (lit< tt))
