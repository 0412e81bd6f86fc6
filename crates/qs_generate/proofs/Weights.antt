-- Sums of bytes by their places.
use Rattle.std.proofs.Common.{◌≡◌, ℕ, ◌+◌, ◌*◌, ◌%◌, ◌<◌, ◌≤◌, suc, List, [], ◌∷◌, ◌++◌, length, get_or, drop, drop_of_length-le, sym, ap, ◌∙◌, arith}
use Rattle.std.proofs.lemmas.List.{at_drop_more}
use Rattle.qs_generate.specs.Sums.{weighted}

pub by_blocks : (place : ℕ) (front rest : List ℕ) → weighted place (front ++ rest) ≡ weighted place front + weighted (place + length front) rest
unfolding weighted
by_blocks place [] rest =
    let at : weighted place rest ≡ 0 + weighted (place + 0) rest = omega (arith, same) in at
  where
    same : weighted place rest ≡ weighted (place + 0) rest
    same = ap (λ (n : ℕ). weighted n rest) (omega arith)
by_blocks place (byte ∷ front) rest =
    let inner = by_blocks (place + 1) front rest in
    let at : weighted (place + 1 + length front) rest ≡ weighted (place + suc (length front)) rest = ap (λ (n : ℕ). weighted n rest) (omega arith) in
    omega (arith, inner, at)

-- the byte at a place, and those behind it
weighted_at : (place : ℕ) (bytes : List ℕ) (i : ℕ) → i < length bytes →
    weighted (place + i) (drop i bytes) ≡ get_or bytes i 0 * (place + i + 1) + weighted (place + (i + 1)) (drop (i + 1) bytes)
unfolding weighted
weighted_at place bytes i inside =
    let here = at_drop_more (weighted (place + i)) bytes i 0 inside in
    let behind : weighted (place + i + 1) (drop (i + 1) bytes) ≡ weighted (place + (i + 1)) (drop (i + 1) bytes) =
    ap (λ (n : ℕ). weighted n (drop (i + 1) bytes)) (omega arith) in
    omega (arith, here, behind)

modular : (t p w : ℕ) → ((t + p % 18446744073709551616) % 18446744073709551616 + w) % 18446744073709551616 ≡ (t + (p + w)) % 18446744073709551616
modular t p w = omega arith

-- a byte more is added
pub one_more_byte : (t b first i : ℕ) (bytes : List ℕ) (whole : ℕ) → i < length bytes → b ≡ get_or bytes i 0 →
    (t + weighted (first + i) (drop i bytes)) % 18446744073709551616 ≡ whole →
    ((t + b * (first + i + 1) % 18446744073709551616) % 18446744073709551616 + weighted (first + (i + 1)) (drop (i + 1) bytes)) % 18446744073709551616 ≡ whole
one_more_byte t b first i bytes whole inside is before =
    let left = weighted (first + (i + 1)) (drop (i + 1) bytes) in
    let here = ap (λ (c : ℕ). c * (first + i + 1) + left) is ∙ sym (weighted_at first bytes i inside) in
    modular t (b * (first + i + 1)) left ∙ ap (λ (n : ℕ). (t + n) % 18446744073709551616) here ∙ before

-- all bytes are added
pub all_bytes : (t first i : ℕ) (bytes : List ℕ) (whole : ℕ) → length bytes ≤ i → t < 18446744073709551616 →
    (t + weighted (first + i) (drop i bytes)) % 18446744073709551616 ≡ whole → t ≡ whole
unfolding weighted
all_bytes t first i bytes whole past small before =
    let none : weighted (first + i) (drop i bytes) ≡ 0 = ap (λ (left : List ℕ). weighted (first + i) left) (drop_of_length-le bytes past) in
    omega (arith, before, none, small)
