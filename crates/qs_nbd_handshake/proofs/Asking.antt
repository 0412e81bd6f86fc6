-- Numbers among those of 16 bits.
use Rattle.std.proofs.Common.{◌≡◌, ℕ, ◌+◌, ◌≤◌, ◌||◌, ◌==◌, List, [], ◌∷◌, length, drop, refl, ap, ◌∙◌, arith}
use Rattle.std.proofs.lemmas.List.{drop-drop, length-drop}
use Rattle.qs_bytes.specs.Numbers.{number16}
use Rattle.qs_nbd_handshake.specs.Inquiries.{is_among, numbers_in}

first_number : (bytes : List ℕ) → 2 ≤ length bytes → numbers_in bytes ≡ number16 bytes 0 ∷ numbers_in (drop 2 bytes)
first_number [] two = absurd (omega arith)
first_number (high ∷ []) two = absurd (omega arith)
first_number (high ∷ (low ∷ rest)) two = refl

number-drop : (bytes : List ℕ) (at : ℕ) → number16 (drop at bytes) 0 ≡ number16 bytes at
unfolding number16
number-drop bytes at = refl

-- one number, and those behind it
numbers_on : (bytes : List ℕ) (at : ℕ) → at + 2 ≤ length bytes →
    numbers_in (drop at bytes) ≡ number16 bytes at ∷ numbers_in (drop (at + 2) bytes)
numbers_on bytes at within =
    first_number (drop at bytes) (omega (arith, length-drop at bytes))
    ∙ ap (λ n. n ∷ numbers_in (drop 2 (drop at bytes))) (number-drop bytes at)
    ∙ ap (λ xs. number16 bytes at ∷ numbers_in xs) (drop-drop 2 at bytes)

pub asks_on : (wanted : ℕ) (bytes : List ℕ) (at : ℕ) → at + 2 ≤ length bytes →
    is_among wanted (numbers_in (drop at bytes)) ≡ (number16 bytes at == wanted || is_among wanted (numbers_in (drop (at + 2) bytes)))
asks_on wanted bytes at within = ap (λ ns. is_among wanted ns) (numbers_on bytes at within)
