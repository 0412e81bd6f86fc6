-- The words that spell the data of a WRITE.
use Rattle.std.proofs.Common.{◌≡◌, ℕ, ◌<◌, ◌≤◌, List, [], ◌∷◌, ◌++◌, Ok, take, drop, length, refl, sym, ap, ◌∙◌, subst, arith}
use Rattle.std.specs.Prelude.{codes, slice_index, Result, Err, IfOk, IfErr, MatchResult}
use Rattle.qs_script.specs.declared.data.DataFault.{DataFault}
use Rattle.qs_script.specs.declared.data.DataFault.TheVariants.{OutOfForm, Memory}
use Rattle.hex.specs.Hex.{decode_of, decode_sized, is_hex_digit}
use Rattle.hex.specs.declared.error.FromHexError.{FromHexError}
use Rattle.hex.proofs.HexLemmas.{decode_of-ok, decode_sized-ok, decode_sized-twice}
use Rattle.qs_script.specs.Spelled.{IsDataFault, Repeats, SpellsData, nothing, repeated, pairs}

-- a star behind two bytes parts a word
pub star_word : (word : List ℕ) → 2 < length word → slice_index word 2 ≡ 42 → word ≡ take 2 word ++ 42 ∷ drop 3 word
star_word [] long star = absurd (omega arith)
star_word (a ∷ []) long star = absurd (omega arith)
star_word (a ∷ b ∷ []) long star = absurd (omega arith)
star_word (a ∷ b ∷ c ∷ rest) long star = ap (λ (x : ℕ). a ∷ b ∷ x ∷ rest) star

-- two bytes before a star
pub record Starred (word pair digits : List ℕ) : Type 0 where
  pub long : 2 < length word
  pub star : slice_index word 2 ≡ 42
  pub front : take 2 word ≡ pair
  pub back : drop 3 word ≡ digits

pub starred : (word pair digits : List ℕ) → word ≡ pair ++ 42 ∷ digits → length pair ≡ 2 → Starred word pair digits
starred word [] digits e two = absurd (omega arith)
starred word (a ∷ []) digits e two = absurd (omega arith)
starred word (a ∷ b ∷ []) digits e two = record {
  long = let lengths = ap length e in omega arith;
  star = ap (λ (w : List ℕ). slice_index w 2) e;
  front = ap (λ (w : List ℕ). take 2 w) e;
  back = ap (λ (w : List ℕ). drop 3 w) e;
}
starred word (a ∷ b ∷ c ∷ rest) digits e two = absurd (omega arith)

pub pair_is_two : (pair : List ℕ) (byte : ℕ) → decode_of pair ≡ Ok (byte ∷ []) → length pair ≡ 2
pair_is_two pair byte e = let twice = (decode_of-ok pair (byte ∷ []) e).2 in omega arith

-- a star is no digit
pub no_star : (word bytes : List ℕ) → decode_of word ≡ Ok bytes → 2 < length word → slice_index word 2 ≡ 42 → ⊥
no_star word bytes e long star =
    let digit = (decode_of-ok word bytes e).1 2 0 long in
    let none = ap (λ (x : ℕ). is_hex_digit x) (sym star) ∙ digit in
    cc none

-- a word with a star spells one byte over and over, or nothing
pub spelled_star : (word : List ℕ) → 2 < length word → slice_index word 2 ≡ 42 → (bytes : List ℕ) → SpellsData word bytes →
    Repeats (take 2 word) (drop 3 word) bytes
spelled_star word long star bytes (nothing e b) = absurd (let lengths = ap length e in omega arith)
spelled_star word long star bytes (repeated pair digits e r) =
    let parts = starred word pair digits e (pair_is_two pair r.byte r.one) in
    subst (λ (p : List ℕ). Repeats p (drop 3 word) bytes) (sym parts.front) (subst (λ (d : List ℕ). Repeats pair d bytes) (sym parts.back) r)
spelled_star word long star bytes (pairs some e) = absurd (no_star word bytes e long star)

-- every other word but `-` spells pairs of digits, or nothing
pub spelled_pairs : (word : List ℕ) → (word ≡ codes "-" → ⊥) → (2 < length word → slice_index word 2 ≡ 42 → ⊥) → (bytes : List ℕ) →
    SpellsData word bytes → decode_of word ≡ Ok bytes
spelled_pairs word not_minus not_star bytes (nothing e b) = absurd (not_minus e)
spelled_pairs word not_minus not_star bytes (repeated pair digits e r) =
    let parts = starred word pair digits e (pair_is_two pair r.byte r.one) in absurd (not_star parts.long parts.star)
spelled_pairs word not_minus not_star bytes (pairs some e) = e

pub ok_star : (word : List ℕ) (result : Result (List ℕ) DataFault) → 2 < length word → slice_index word 2 ≡ 42 →
    IfOk result (Repeats (take 2 word) (drop 3 word)) → IfOk result (SpellsData word)
ok_star word (Ok bytes) long star is = repeated (take 2 word) (drop 3 word) (star_word word long star) is
ok_star word (Err fault) long star is = tt

pub fault_star : (word : List ℕ) (result : Result (List ℕ) DataFault) → 2 < length word → slice_index word 2 ≡ 42 →
    IfErr result (IsDataFault (Repeats (take 2 word) (drop 3 word))) → IfErr result (IsDataFault (SpellsData word))
fault_star word (Ok bytes) long star is = tt
fault_star word (Err OutOfForm) long star is = λ bytes spelled. is bytes (spelled_star word long star bytes spelled)
fault_star word (Err (Memory size)) long star is = (is.0, (repeated (take 2 word) (drop 3 word) (star_word word long star) is.1.0, is.1.1))

pub fault_pairs : (word : List ℕ) (result : Result (List ℕ) DataFault) → 1 ≤ length word → (word ≡ codes "-" → ⊥) →
    (2 < length word → slice_index word 2 ≡ 42 → ⊥) → IfErr result (IsDataFault (λ bytes. decode_of word ≡ Ok bytes)) →
    IfErr result (IsDataFault (SpellsData word))
fault_pairs word (Ok bytes) some not_minus not_star is = tt
fault_pairs word (Err OutOfForm) some not_minus not_star is = λ bytes spelled. is bytes (spelled_pairs word not_minus not_star bytes spelled)
fault_pairs word (Err (Memory size)) some not_minus not_star is = (is.0, (pairs some is.1.0, is.1.1))

-- what spells one byte is decoded into room for one
pub decodes_one : (pair digits bytes : List ℕ) (is : Repeats pair digits bytes) → decode_sized pair 1 ≡ Ok (is.byte ∷ [])
decodes_one pair digits bytes is = decode_sized-twice pair 1 (pair_is_two pair is.byte is.one) ∙ is.one

-- what a slice's decoding wrote is what the text decodes to
written : (decoded : Result (List ℕ) FromHexError) (result : Result Unit FromHexError) (out : List ℕ) →
    MatchResult decoded (λ bytes. (result ≡ Ok tt) × (out ≡ bytes)) (λ e. result ≡ Err e) → result ≡ Ok tt → decoded ≡ Ok out
written (Ok bytes) result out is ok = ap (λ (b : List ℕ). Ok b) (sym is.1)
written (Err e) result out is ok = absurd (cc (sym is ∙ ok))

one_of : (out : List ℕ) → length out ≡ 1 → out ≡ slice_index out 0 ∷ []
one_of [] e = absurd (omega arith)
one_of (x ∷ []) e = refl
one_of (x ∷ y ∷ out) e = absurd (omega arith)

-- what was decoded into room for one byte spells that byte
pub spells_one : (pair out : List ℕ) (result : Result Unit FromHexError) →
    MatchResult (decode_sized pair 1) (λ bytes. (result ≡ Ok tt) × (out ≡ bytes)) (λ e. result ≡ Err e) → result ≡ Ok tt →
    decode_of pair ≡ Ok (slice_index out 0 ∷ [])
spells_one pair out result is ok =
    let sized = written (decode_sized pair 1) result out is ok in
    let long = decode_sized-ok pair 1 out sized in
    let whole = sym (decode_sized-twice pair 1 long) ∙ sized in
    let twice = (decode_of-ok pair out whole).2 in
    whole ∙ ap (λ (b : List ℕ). Ok b) (one_of out (omega arith))
