-- Two levels that count the same admissions.
use Rattle.std.proofs.Common.{◌≡◌, ◌≢◌, ℕ, ◌+◌, List, [], ◌∷◌, ◌++◌, Bool, true, false, refl, sym, ◌∙◌, subst, arith, cond}
use Rattle.std.proofs.lemmas.Bool.Decides.{nat_tests}
use Rattle.std.specs.Prelude.{◌==◌}
use Rattle.qs_bucket.specs.Admissions.{Admission}
use Rattle.qs_bucket.specs.Level.{LevelValue, effective, level_at, level_added, IsOwedBy}
use Rattle.qs_bucket.specs.Bucket.{BucketValue, first_wait, filled, Holds}
use Rattle.qs_bucket.proofs.Owed.{owed_added}

-- an admission changes neither rate nor bucket
pub added_rate : (b : LevelValue) (now units : ℕ) →
    ((level_added b now units).rate ≡ b.rate) × ((level_added b now units).bucket ≡ b.bucket)
added_rate b now units = go (b.rate == 0)
  where
    more : LevelValue
    more = record {
      rate = b.rate;
      bucket = b.bucket;
      level = level_at b (effective b now) + units;
      last = effective b now;
    }

    go : (z : Bool) → ((cond z b more).rate ≡ b.rate) × ((cond z b more).bucket ≡ b.bucket)
    go true = (refl, refl)
    go false = (refl, refl)

pub added_last : (b : LevelValue) (now units : ℕ) → b.rate ≢ 0 → (level_added b now units).last ≡ effective b now
added_last b now units some = go (b.rate == 0) refl
  where
    more : LevelValue
    more = record {
      rate = b.rate;
      bucket = b.bucket;
      level = level_at b (effective b now) + units;
      last = effective b now;
    }

    go : (z : Bool) → (b.rate == 0) ≡ z → (cond z b more).last ≡ effective b now
    go true e = absurd (some (grind (arith, nat_tests)))
    go false e = refl

-- neither of two waits is one, where the first of them that isn't 0 is 0
pub no_waits : (m n : ℕ) → first_wait m n ≡ 0 → (m ≡ 0) × (n ≡ 0)
no_waits m n = go (m == 0) refl
  where
    go : (z : Bool) → (m == 0) ≡ z → cond z n m ≡ 0 → (m ≡ 0) × (n ≡ 0)
    go true e h = (grind (arith, nat_tests), h)
    go false e h = absurd (grind (arith, nat_tests))

-- a bucket whose levels are what the same admissions owe stays so as one more is counted
pub holds_filled : (b : BucketValue) (xs : List Admission) (now units : ℕ) → Holds b xs →
    Holds (filled b now units) (xs ++ record { reading = effective b.first now; units = units } ∷ [])
holds_filled b xs now units holds = record {
  first = λ h. let some : b.first.rate ≢ 0 = rw (added_rate b.first now units).0 at h in
      owed_added b.first xs now units some (holds.first some);
  second = λ h. let some : b.second.rate ≢ 0 = rw (added_rate b.second now units).0 at h in
      subst (λ (t : ℕ). IsOwedBy (level_added b.second now units) (xs ++ record { reading = t; units = units } ∷ []))
      (same some)
      (owed_added b.second xs now units some (holds.second some));
  together = λ h. let some : b.second.rate ≢ 0 = rw (added_rate b.second now units).0 at h in (
    rw (added_rate b.first now units).0 (holds.together some).0,
    added_last b.second now units some ∙ (same some ∙ sym (added_last b.first now units (holds.together some).0)),
  );
}
  where
    same : b.second.rate ≢ 0 → effective b.second now ≡ effective b.first now
    same some = rw (holds.together some).1 refl
