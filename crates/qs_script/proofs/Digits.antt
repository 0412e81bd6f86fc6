-- Numbers and their decimal digits.
use Rattle.std.proofs.Common.{◌≡◌, ℕ, ◌<◌, ◌≤◌, ◌^◌, List, length, get_or, sym, ◌∙◌, ap, subst, arith, zero, suc}
use Rattle.std.specs.Fmt.{decimal}
use Rattle.std.specs.Str.{IsUtf8}
use Rattle.std.specs.Prelude.{Ok, Err}
use Rattle.std.specs.Str.Parse.{AllDigits, digits_value, ParsesUnsigned}
use Rattle.std.proofs.lemmas.Str.{IsUtf8-from_ascii}
use Rattle.std.proofs.lemmas.Str.Parse.{IsNumeralModel, numerals_by_value, tells_digits, tells_by_index, parse_digits}
use Rattle.std.proofs.lemmas.Fmt.{decimal-digits_value, digits_decimal, digits_value-decimal, decimal_nonempty, decimal_digit}
use Rattle.std.proofs.lemmas.Fmt.{first_decimal, IsAscii-from_digits}
use Rattle.qs_script.specs.Spelled.{IsPlain, SpellsNumber}

pub own : IsNumeralModel (AllDigits 10) (digits_value 10)
own = numerals_by_value (AllDigits 10) tells_digits

pub all_digits : (word : List ℕ) → IsPlain word → AllDigits 10 word
all_digits word plain = (numerals_by_value _ tells_by_index).to word plain.digits

-- digits without leading zeros are those of their number
pub decimal-plain : (word : List ℕ) → IsPlain word → digits_value 10 word < 2 ^ 64 → decimal (digits_value 10 word) ≡ word
decimal-plain word plain small = decimal-digits_value own word (all_digits word plain) plain.some plain.first small

pub is_utf8 : (word : List ℕ) → IsPlain word → IsUtf8 word
is_utf8 word plain = IsUtf8-from_ascii word (IsAscii-from_digits word (all_digits word plain))

first_alone : (n : ℕ) → n < 2 ^ 64 → get_or (decimal n) 0 0 ≡ 48 → length (decimal n) ≡ 1
first_alone zero small is = ap length (decimal_digit 0 (omega arith))
first_alone (suc n) small is = let above = first_decimal (suc n) (omega arith) small in absurd (omega (arith, above, is))

-- the digits of a number
pub decimal_is_plain : (n : ℕ) → n < 2 ^ 64 → IsPlain (decimal n)
decimal_is_plain n small = record {
  digits = (numerals_by_value _ tells_by_index).from (decimal n) (digits_decimal own n small);
  some = decimal_nonempty n small;
  first = first_alone n small;
}

module _ (most : ℕ) (word : List ℕ) (n : ℕ) (limit : most < 2 ^ 64) (is : SpellsNumber most word n) where
  pub spelled_below : n < 2 ^ 64
  spelled_below = let small = is.small in omega arith

  -- what a word spells is plain, and the number is its value
  pub spelled_plain : IsPlain word
  spelled_plain = subst IsPlain (sym is.digits) (decimal_is_plain n spelled_below)

  pub spelled_value : digits_value 10 word ≡ n
  spelled_value = ap (digits_value 10) is.digits ∙ digits_value-decimal own n spelled_below

-- what `parse` answers at digits
module _ (most : ℕ) (word : List ℕ) (plain : IsPlain word) where
  pub parsed : (n : ℕ) → ParsesUnsigned {E = ℕ} 64 10 word (Ok n) → n ≤ most → SpellsNumber most word n
  parsed n parses small =
      let is = parse_digits own {E = ℕ} 64 word (Ok n) parses (all_digits word plain) in
      record { small = small; digits = sym (ap decimal is.1 ∙ decimal-plain word plain is.0.1) }

  pub unparsed : {E : Type 0} (e : E) (n : ℕ) → most < 2 ^ 64 → ParsesUnsigned {E = E} 64 10 word (Err e) → SpellsNumber most word n → ⊥
  unparsed e n limit parses is =
      let no = parse_digits own 64 word (Err e) parses (all_digits word plain) in
      let value = spelled_value most word n limit is in
      let below = spelled_below most word n limit is in
      no (plain.some, omega arith)

  pub parsed_over : (m n : ℕ) → most < 2 ^ 64 → ParsesUnsigned {E = ℕ} 64 10 word (Ok m) → most < m → SpellsNumber most word n → ⊥
  parsed_over m n limit parses over is =
      let parsed_is = parse_digits own {E = ℕ} 64 word (Ok m) parses (all_digits word plain) in
      let value = spelled_value most word n limit is in
      let small = is.small in
      let same = parsed_is.1 in
      omega arith
