-- Whether a text is an id, and whether it is digits, by their tests.
use Rattle.std.proofs.Common.{◌≡◌, ℕ, ◌<◌, ◌≤◌, ◌==◌, Bool, true, false, ◌&&◌, ◌||◌, ◌^◌, if◌then◌else◌, List, [], ◌∷◌, length, Some, None, refl, arith}
use Rattle.std.specs.Prelude.{nat_lt, nat_le, All, Err}
use Rattle.std.specs.Bool.{Decides}
use Rattle.std.specs.Int.{is_in_range, IsInRange}
use Rattle.std.specs.List.{list_all}
use Rattle.std.specs.Char.{is_ascii_alphabetic, is_ascii_alphanumeric, is_ascii_digit, IsAsciiAlphabetic, IsAsciiAlphanumeric}
use Rattle.std.specs.Str.Parse.{AllDigits, digits_value, ParsesUnsigned}
use Rattle.std.proofs.lemmas.Bool.{leb-true, le-leb, ltb-true}
use Rattle.std.proofs.lemmas.Bool.Decides.{Decides-eqb, Decides-ltb, Decides-and, Decides-or, Decides-like, Decides-by_and}
use Rattle.std.proofs.lemmas.Str.{digit_value_digit}
use Rattle.std.proofs.lemmas.Str.Parse.{IsNumeralModel, numerals_by_value, tells_digits, parse_digits}
use Rattle.qs_bytes.specs.Names.{IsId, IsIdByte}
use Rattle.qs_qmp_arguments.specs.Kinds.{is_id, is_id_byte}

at_most : (a b : ℕ) → Decides (nat_le a b) (a ≤ b)
at_most a b = (leb-true a b, le-leb a b)

in_range : (lo hi c : ℕ) → Decides (is_in_range lo hi c) (IsInRange lo hi c)
in_range lo hi c = Decides-and (nat_le lo c) (nat_le c hi) (at_most lo c) (at_most c hi)

alphabetic : (c : ℕ) → Decides (is_ascii_alphabetic c) (IsAsciiAlphabetic c)
alphabetic c = Decides-or (is_in_range 65 90 c) (is_in_range 97 122 c) (in_range 65 90 c) (in_range 97 122 c)

alphanumeric : (c : ℕ) → Decides (is_ascii_alphanumeric c) (IsAsciiAlphanumeric c)
alphanumeric c =
    Decides-or (is_in_range 48 57 c || is_in_range 65 90 c) (is_in_range 97 122 c)
    (Decides-or (is_in_range 48 57 c) (is_in_range 65 90 c) (in_range 48 57 c) (in_range 65 90 c)) (in_range 97 122 c)

id_byte : (b : ℕ) → Decides (is_id_byte b) (IsIdByte b)
id_byte b =
    Decides-or (is_ascii_alphanumeric b) (b == 45 || (b == 95 || b == 46)) (alphanumeric b)
    (Decides-or (b == 45) (b == 95 || b == 46) (Decides-eqb b 45) (Decides-or (b == 95) (b == 46) (Decides-eqb b 95) (Decides-eqb b 46)))

id_bytes : (bs : List ℕ) → Decides (list_all is_id_byte bs) (All IsIdByte bs)
id_bytes bs = Decides-by_and is_id_byte IsIdByte (λ xs. list_all is_id_byte xs) id_byte refl (λ x xs. refl) bs

pub id_decides : (bs : List ℕ) → Decides (is_id bs) (IsId bs)
id_decides [] = (λ e. absurd cc, λ e. absurd e)
id_decides (b ∷ bs) =
    Decides-like (is_id (b ∷ bs)) (λ h. (h.0.0, h.0.1, h.1)) (λ h. ((h.0, h.1), h.2))
    (Decides-and (nat_lt (length bs) 31 && is_ascii_alphabetic b) (list_all is_id_byte bs)
    (Decides-and (nat_lt (length bs) 31) (is_ascii_alphabetic b) (Decides-ltb (length bs) 31) (alphabetic b)) (id_bytes bs))

-- ---- digits

by_value : IsNumeralModel (AllDigits 10) (digits_value 10)
by_value = numerals_by_value (AllDigits 10) tells_digits

both : (x y : Bool) → (x && y) ≡ true → (x ≡ true) × (y ≡ true)
both true y e = (refl, e)
both false y e = absurd cc

digit_below : (c : ℕ) → is_ascii_digit c ≡ true → IsInRange 48 57 c
digit_below c e = (in_range 48 57 c).0 e

all_digits : (bs : List ℕ) → list_all is_ascii_digit bs ≡ true → AllDigits 10 bs
all_digits [] e = tt
all_digits (b ∷ bs) e =
    let t = both (is_ascii_digit b) (list_all is_ascii_digit bs) e in
    let r = digit_below b t.0 in
    let v = digit_value_digit b r in
    let hi = r.1 in
    (omega (arith, v, hi), all_digits bs t.1)

unless_small : (t : Bool) (bs : List ℕ) → nat_lt (digits_value 10 bs) (2 ^ 64) ≡ t → (digits_value 10 bs < 2 ^ 64 → ⊥) →
    None ≡ (if t then Some (digits_value 10 bs) else None)
unless_small true bs is large = absurd (large (ltb-true (digits_value 10 bs) (2 ^ 64) is))
unless_small false bs is large = refl

-- digits that aren't parsed spell 2^64 or more
pub unparsed : {E : Type 0} (e : E) (bs : List ℕ) → 0 < length bs → list_all is_ascii_digit bs ≡ true → ParsesUnsigned {E = E} 64 10 bs (Err e) →
    None ≡ (if nat_lt (digits_value 10 bs) (2 ^ 64) then Some (digits_value 10 bs) else None)
unparsed e bs some digits parses =
    let large = parse_digits by_value 64 bs (Err e) parses (all_digits bs digits) in
    unless_small (nat_lt (digits_value 10 bs) (2 ^ 64)) bs refl (λ small. large (some, small))
