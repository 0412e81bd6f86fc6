-- Laws of numbers as big-endian bytes.
use Rattle.std.proofs.Common.{◌≡◌, ℕ, ◌+◌, ◌<◌, ◌≤◌, ◌^◌, List, [], ◌∷◌, ◌++◌, length, take, drop, get_or, refl, ap, ◌∙◌, append_assoc, arith, inl, inr, lit<}
use Rattle.std.proofs.lemmas.Bool.{cases_lt}
use Rattle.std.proofs.lemmas.List.{drop-append-le, take-append-le, take_at, drop_at, take-take, length-take-le, length-take, length-drop, get_or-take, get_or-drop, get_or_past}
use Rattle.std.proofs.lemmas.Nat.{be_bytes_2, be_bytes_4, be_bytes_8, from_be_bytes-to_be_bytes_2, from_be_bytes-to_be_bytes_4, from_be_bytes-to_be_bytes_8}
use Rattle.std.specs.Int.{w16, w32, w64, to_be_bytes, from_be_bytes}
use Rattle.qs_bytes.specs.Numbers.{bytes16, bytes32, bytes64, number16, number32, number64}
use Rattle.qs_bytes.specs.Pieces.{part}
use Rattle.qs_nbd_wire.specs.Options.{AreBytes}

pub length-bytes16 : (n : ℕ) → length (bytes16 n) ≡ 2
unfolding bytes16
length-bytes16 n = refl

pub length-bytes32 : (n : ℕ) → length (bytes32 n) ≡ 4
unfolding bytes32
length-bytes32 n = refl

pub length-bytes64 : (n : ℕ) → length (bytes64 n) ≡ 8
unfolding bytes64
length-bytes64 n = refl

-- a part of a list, in the midst of others
pub part_at : (front piece rest : List ℕ) (at n : ℕ) → length front ≡ at → length piece ≡ n → part (front ++ piece ++ rest) at n ≡ piece
part_at front piece rest at n e f =
    ap (λ xs. take n (drop at xs)) (append_assoc front piece rest) ∙ ap (take n) (drop_at front (piece ++ rest) at e) ∙ take_at piece rest n f

pub number16_at : (front rest : List ℕ) (n at : ℕ) → length front ≡ at → n < 2 ^ 16 → number16 (front ++ bytes16 n ++ rest) at ≡ n
unfolding number16 bytes16
number16_at front rest n at e fits = ap (from_be_bytes w16) (part_at front (to_be_bytes w16 n) rest at 2 e refl) ∙ from_be_bytes-to_be_bytes_2 n fits

pub number32_at : (front rest : List ℕ) (n at : ℕ) → length front ≡ at → n < 2 ^ 32 → number32 (front ++ bytes32 n ++ rest) at ≡ n
unfolding number32 bytes32
number32_at front rest n at e fits = ap (from_be_bytes w32) (part_at front (to_be_bytes w32 n) rest at 4 e refl) ∙ from_be_bytes-to_be_bytes_4 n fits

pub number64_at : (front rest : List ℕ) (n at : ℕ) → length front ≡ at → n < 2 ^ 64 → number64 (front ++ bytes64 n ++ rest) at ≡ n
unfolding number64 bytes64
number64_at front rest n at e fits = ap (from_be_bytes w64) (part_at front (to_be_bytes w64 n) rest at 8 e refl) ∙ from_be_bytes-to_be_bytes_8 n fits

pub part_bytes : (bytes : List ℕ) (at n : ℕ) → AreBytes bytes → AreBytes (part bytes at n)
part_bytes bytes at n all i =
    elim (cases_lt i n) [
      | inl below ↦ let e = get_or-take n (drop at bytes) i 0 below ∙ get_or-drop at bytes i 0 in rw e (all (at + i))
      | inr past ↦ let e : get_or (part bytes at n) i 0 ≡ 0 = get_or_past (part bytes at n) i 0 (omega (arith, length-take n (drop at bytes))) in rw e (lit< tt)
    ]

-- bytes spell no more than their width holds
two_bytes : (bytes : List ℕ) → length bytes ≡ 2 → AreBytes bytes → from_be_bytes w16 bytes < 2 ^ 16
two_bytes (a ∷ (b ∷ [])) two all = omega (arith, all 0, all 1)
two_bytes [] two all = absurd (omega arith)
two_bytes (a ∷ []) two all = absurd (omega arith)
two_bytes (a ∷ (b ∷ (c ∷ rest))) two all = absurd (omega arith)

four_bytes : (bytes : List ℕ) → length bytes ≡ 4 → AreBytes bytes → from_be_bytes w32 bytes < 2 ^ 32
four_bytes (a ∷ (b ∷ (c ∷ (d ∷ [])))) four all = omega (arith, all 0, all 1, all 2, all 3)
four_bytes [] four all = absurd (omega arith)
four_bytes (a ∷ []) four all = absurd (omega arith)
four_bytes (a ∷ (b ∷ [])) four all = absurd (omega arith)
four_bytes (a ∷ (b ∷ (c ∷ []))) four all = absurd (omega arith)
four_bytes (a ∷ (b ∷ (c ∷ (d ∷ (e ∷ rest))))) four all = absurd (omega arith)

length-whole_part : (bytes : List ℕ) (at n : ℕ) → at + n ≤ length bytes → length (part bytes at n) ≡ n
length-whole_part bytes at n within = length-take-le n (drop at bytes) (omega (arith, length-drop at bytes))

pub number16-fits : (bytes : List ℕ) (at : ℕ) → AreBytes bytes → at + 2 ≤ length bytes → number16 bytes at < 2 ^ 16
unfolding number16
number16-fits bytes at all within = two_bytes (part bytes at 2) (length-whole_part bytes at 2 within) (part_bytes bytes at 2 all)

pub number32-fits : (bytes : List ℕ) (at : ℕ) → AreBytes bytes → at + 4 ≤ length bytes → number32 bytes at < 2 ^ 32
unfolding number32
number32-fits bytes at all within = four_bytes (part bytes at 4) (length-whole_part bytes at 4 within) (part_bytes bytes at 4 all)

pub bytes16-number16 : (bytes : List ℕ) (at : ℕ) → AreBytes bytes → at + 2 ≤ length bytes → bytes16 (number16 bytes at) ≡ part bytes at 2
unfolding number16 bytes16
bytes16-number16 bytes at all within =
    be_bytes_2 (part bytes at 2) (from_be_bytes w16 (part bytes at 2)) (length-take-le 2 (drop at bytes) (omega (arith, length-drop at bytes))) (part_bytes bytes at 2 all) refl

pub bytes32-number32 : (bytes : List ℕ) (at : ℕ) → AreBytes bytes → at + 4 ≤ length bytes → bytes32 (number32 bytes at) ≡ part bytes at 4
unfolding number32 bytes32
bytes32-number32 bytes at all within =
    be_bytes_4 (part bytes at 4) (from_be_bytes w32 (part bytes at 4)) (length-take-le 4 (drop at bytes) (omega (arith, length-drop at bytes))) (part_bytes bytes at 4 all) refl

pub bytes64-number64 : (bytes : List ℕ) (at : ℕ) → AreBytes bytes → at + 8 ≤ length bytes → bytes64 (number64 bytes at) ≡ part bytes at 8
unfolding number64 bytes64
bytes64-number64 bytes at all within =
    be_bytes_8 (part bytes at 8) (from_be_bytes w64 (part bytes at 8)) (length-take-le 8 (drop at bytes) (omega (arith, length-drop at bytes))) (part_bytes bytes at 8 all) refl

-- the first four bytes tell the number at 0
pub number32-take : (bytes : List ℕ) (n : ℕ) → 4 ≤ n → number32 (take n bytes) 0 ≡ number32 bytes 0
unfolding number32
number32-take bytes n four = ap (from_be_bytes w32) (take-take 4 n bytes four)

pub number32-append : (bytes rest : List ℕ) → 4 ≤ length bytes → number32 (bytes ++ rest) 0 ≡ number32 bytes 0
unfolding number32
number32-append bytes rest four = ap (from_be_bytes w32) (take-append-le 4 bytes rest four)

-- the first sixteen bytes tell the head's numbers
pub number32-append_at : (bytes rest : List ℕ) (at : ℕ) → at + 4 ≤ length bytes → number32 (bytes ++ rest) at ≡ number32 bytes at
unfolding number32
number32-append_at bytes rest at within =
    ap (λ xs. from_be_bytes w32 (take 4 xs)) (drop-append-le at bytes rest (omega arith))
    ∙ ap (from_be_bytes w32) (take-append-le 4 (drop at bytes) rest (omega (arith, length-drop at bytes)))

pub number64-append : (bytes rest : List ℕ) → 8 ≤ length bytes → number64 (bytes ++ rest) 0 ≡ number64 bytes 0
unfolding number64
number64-append bytes rest eight = ap (from_be_bytes w64) (take-append-le 8 bytes rest eight)
