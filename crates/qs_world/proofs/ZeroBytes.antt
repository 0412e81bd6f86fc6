-- Bytes that are zero.
use Rattle.std.proofs.Common.{◌≡◌, ℕ, zero, suc, ◌+◌, ◌*◌, ◌%◌, ◌≤◌, ◌⊎◌, inl, inr, List, get_or, length, replicate, refl, sym, ap, ◌∙◌, subst, arith}
use Rattle.std.proofs.lemmas.List.{length-replicate}
use Rattle.qs_request.specs.RunSteps.{AreZeros}

zero-at : (n i : ℕ) → ◌≡◌ {A = ℕ} (get_or (replicate n 0) i 0) 0
zero-at zero i = refl
zero-at (suc n) zero = refl
zero-at (suc n) (suc i) = zero-at n i

pub replicated : (n : ℕ) (bytes : List ℕ) → bytes ≡ replicate n 0 → AreZeros n bytes
replicated n bytes is = record {
  long = omega (arith, ap length is, length-replicate {A = ℕ} n 0);
  zeros = λ i. subst (λ (xs : List ℕ). ◌≡◌ {A = ℕ} (get_or xs i 0) 0) (sym is) (zero-at n i);
}

-- a run of whole blocks takes fewer
pub for_run : (A b n : ℕ) (bytes : List ℕ) → (A ≡ 512) ⊎ (A ≡ 4096) → b % 16 + n ≤ 16 → AreZeros 65536 bytes → AreZeros (n * A) bytes
for_run A b n bytes align group are = record { long = elim align [ inl small ↦ few 512 small (omega arith) | inr large ↦ few 4096 large (omega arith) ]; zeros = are.zeros }
  where
    few : (B : ℕ) → A ≡ B → n * B ≤ 65536 → n * A ≤ length bytes
    few B is less = rw is (omega (arith, less, are.long))
