-- The data of INFO and GO, and the questions that they spell.
use Rattle.std.proofs.Common.{◌≡◌, ℕ, ◌+◌, ◌*◌, ◌<◌, ◌≤◌, ◌^◌, Bool, true, false, not, ◌&&◌, nat_lt, if◌then◌else◌, List, [], ◌∷◌, ◌++◌, length, take, drop, Some, None, All, refl, ap, sym, ◌∙◌, append_assoc, arith, suc, zero}
use Rattle.std.specs.List.{flat_map}
use Rattle.std.proofs.Math.Seq.{take-add}
use Rattle.std.proofs.lemmas.Bool.{ltb-false, le-ltb, eqb-true, eq-eqb}
use Rattle.std.proofs.lemmas.List.{length-append, take-append-drop, drop_at, get_or-drop}
use Rattle.std.proofs.lemmas.List.Elements.{All-cons, All-nil}
use Rattle.qs_bytes.specs.Numbers.{bytes16, bytes32, number16, number32}
use Rattle.qs_bytes.specs.Pieces.{part}
use Rattle.qs_bytes.proofs.Overlays.{length-part}
use Rattle.qs_nbd_wire.specs.Options.{AreBytes}
use Rattle.qs_nbd_wire.proofs.Widths.{length-bytes16, length-bytes32, part_at, number16_at, number32_at, number16-fits, number32-fits, bytes16-number16, bytes32-number32}
use Rattle.qs_nbd_handshake.specs.declared.inquiry.Inquiry.{Inquiry}
use Rattle.qs_nbd_handshake.specs.Inquiries.{Question, FitsQuestion, question_bytes, question_of, inquiry_for, inquiry_of, name_end, requests_in, has_form, numbers_in}
use Rattle.qs_nbd_handshake.specs.Laws.{SpellsQuestions}

-- two bytes for each number
length-numbers : (ns : List ℕ) → length (flat_map bytes16 ns) ≡ 2 * length ns
length-numbers [] = refl
length-numbers (n ∷ ns) = omega (arith, length-append (bytes16 n) (flat_map bytes16 ns), length-bytes16 n, length-numbers ns)

number_read : (n : ℕ) (rest : List ℕ) → n < 2 ^ 16 → numbers_in (bytes16 n ++ rest) ≡ n ∷ numbers_in rest
unfolding bytes16
number_read n rest fits = ap (λ k. k ∷ numbers_in rest) (number16_at [] rest n 0 refl fits)

-- numbers are read back
numbers_read : (ns : List ℕ) → All (λ n. n < 2 ^ 16) ns → numbers_in (flat_map bytes16 ns) ≡ ns
numbers_read [] all = refl
numbers_read (n ∷ ns) all =
    number_read n (flat_map bytes16 ns) (all 0 n (omega arith))
    ∙ ap (λ xs. n ∷ xs) (numbers_read ns (λ k d h. all (suc k) d (omega arith)))

bytes_behind : (at : ℕ) (bytes : List ℕ) → AreBytes bytes → AreBytes (drop at bytes)
bytes_behind at bytes all i = rw (get_or-drop at bytes i 0) (all (at + i))

count_numbers : (m : ℕ) (bytes : List ℕ) → length bytes ≡ 2 * m → length (numbers_in bytes) ≡ m
count_numbers zero [] e = refl
count_numbers (suc m) [] e = absurd (omega arith)
count_numbers zero (high ∷ rest) e = absurd (omega arith)
count_numbers (suc m) (high ∷ []) e = absurd (omega arith)
count_numbers (suc m) (high ∷ (low ∷ rest)) e = ap (λ n. suc n) (count_numbers m rest (omega arith))

-- what bytes are the spelling of
numbers_spelled : (m : ℕ) (bytes : List ℕ) → AreBytes bytes → length bytes ≡ 2 * m → flat_map bytes16 (numbers_in bytes) ≡ bytes
numbers_spelled zero [] all e = refl
numbers_spelled (suc m) [] all e = refl
numbers_spelled zero (high ∷ rest) all e = absurd (omega arith)
numbers_spelled (suc m) (high ∷ []) all e = absurd (omega arith)
numbers_spelled (suc m) (high ∷ (low ∷ rest)) all e =
    ap (λ xs. xs ++ flat_map bytes16 (numbers_in rest)) (bytes16-number16 (high ∷ (low ∷ rest)) 0 all (omega arith))
    ∙ ap (λ xs. high ∷ (low ∷ xs)) (numbers_spelled m rest (bytes_behind 2 (high ∷ (low ∷ rest)) all) (omega arith))

numbers_fit : (m : ℕ) (bytes : List ℕ) → AreBytes bytes → length bytes ≡ 2 * m → All (λ n. n < 2 ^ 16) (numbers_in bytes)
numbers_fit zero [] all e = All-nil (λ n. n < 2 ^ 16)
numbers_fit (suc m) [] all e = All-nil (λ n. n < 2 ^ 16)
numbers_fit zero (high ∷ rest) all e = absurd (omega arith)
numbers_fit (suc m) (high ∷ []) all e = absurd (omega arith)
numbers_fit (suc m) (high ∷ (low ∷ rest)) all e =
    All-cons (λ n. n < 2 ^ 16) (number16 (high ∷ (low ∷ rest)) 0) (numbers_in rest)
    (number16-fits (high ∷ (low ∷ rest)) 0 all (omega arith))
    (numbers_fit m rest (bytes_behind 2 (high ∷ (low ∷ rest)) all) (omega arith))

-- where the parts of a question's bytes stand
record Stands (q : Question) : Type 0 where
  length_of_name : number32 (question_bytes q) 0 ≡ length q.name
  name : part (question_bytes q) 4 (length q.name) ≡ q.name
  count : number16 (question_bytes q) (4 + length q.name) ≡ length q.numbers
  numbers : drop (4 + length q.name + 2) (question_bytes q) ≡ flat_map bytes16 q.numbers
  whole : length (question_bytes q) ≡ 4 + length q.name + 2 + 2 * length q.numbers

stands : (q : Question) → FitsQuestion q → Stands q
stands q fits =
    let a = bytes32 (length q.name) in
    let c = bytes16 (length q.numbers) in
    let r = flat_map bytes16 q.numbers in
    let front : length (a ++ q.name) ≡ 4 + length q.name = omega (arith, length-append a q.name, length-bytes32 (length q.name)) in
    let behind : length (a ++ q.name ++ c) ≡ 4 + length q.name + 2 =
    omega (arith, front, length-append (a ++ q.name) c, length-bytes16 (length q.numbers)) in
    record {
      length_of_name =
          ap (λ xs. number32 xs 0) (append_assoc (a ++ q.name) c r ∙ append_assoc a q.name (c ++ r))
          ∙ number32_at [] (q.name ++ (c ++ r)) (length q.name) 0 refl fits.name;
      name =
          ap (λ xs. part xs 4 (length q.name)) (append_assoc (a ++ q.name) c r)
          ∙ part_at a q.name (c ++ r) 4 (length q.name) (length-bytes32 (length q.name)) refl;
      count = number16_at (a ++ q.name) r (length q.numbers) (4 + length q.name) front fits.count;
      numbers = drop_at (a ++ q.name ++ c) r (4 + length q.name + 2) behind;
      whole = omega (arith, behind, length-append (a ++ q.name ++ c) r, length-numbers q.numbers);
    }

form_holds : (a b c : Bool) → a ≡ false → b ≡ false → c ≡ true → (not a && not b && c) ≡ true
form_holds a b c e f g = rw (e, f, g) refl

-- a question's bytes have the form
formed : (q : Question) → Stands q → has_form (question_bytes q) ≡ true
formed q s =
    let at : name_end (question_bytes q) ≡ 4 + length q.name = ap (λ n. 4 + n) s.length_of_name in
    let count : number16 (question_bytes q) (name_end (question_bytes q)) ≡ length q.numbers =
    ap (λ n. number16 (question_bytes q) n) at ∙ s.count in
    let rest : length (requests_in (question_bytes q)) ≡ 2 * length q.numbers =
    ap (λ n. length (drop (n + 2) (question_bytes q))) at ∙ ap (λ xs. length xs) s.numbers ∙ length-numbers q.numbers in
    form_holds (nat_lt (length (question_bytes q)) 6) (nat_lt (length (question_bytes q)) (name_end (question_bytes q) + 2)) _
    (le-ltb (length (question_bytes q)) 6 (omega (arith, s.whole)))
    (le-ltb (length (question_bytes q)) (name_end (question_bytes q) + 2) (omega (arith, s.whole, at)))
    (eq-eqb _ _ (rest ∙ ap (λ n. 2 * n) (sym count)))

same_question : (q : Question) (name numbers : List ℕ) → name ≡ q.name → numbers ≡ q.numbers → record { name = name; numbers = numbers } ≡ q
same_question q name numbers e f = rw (e, f) refl

question_read : (q : Question) → FitsQuestion q → Stands q → question_of (question_bytes q) ≡ q
question_read q fits s =
    let all = question_bytes q in
    same_question q _ _
    (ap (λ n. part all 4 n) s.length_of_name ∙ s.name)
    (ap (λ n. numbers_in (drop (4 + n + 2) all)) s.length_of_name ∙ ap (λ xs. numbers_in xs) s.numbers ∙ numbers_read q.numbers fits.each)

if_true : {A : Type 0} (b : Bool) (x y : A) → b ≡ true → (if b then x else y) ≡ x
if_true b x y e = rw e refl

inquiry_read : (q : Question) → FitsQuestion q → Stands q → inquiry_of (question_bytes q) ≡ Some (inquiry_for q)
inquiry_read q fits s =
    if_true (has_form (question_bytes q)) (Some (inquiry_for (question_of (question_bytes q)))) None (formed q s)
    ∙ ap (λ (p : Question). Some (inquiry_for p)) (question_read q fits s)

-- data that have the form
record IsFormed (bytes : List ℕ) : Type 0 where
  six : 6 ≤ length bytes
  name : name_end bytes + 2 ≤ length bytes
  numbers : length (requests_in bytes) ≡ 2 * number16 bytes (name_end bytes)

form_parts : (a b c : Bool) → (not a && not b && c) ≡ true → (a ≡ false) × (b ≡ false) × (c ≡ true)
form_parts false false true e = (refl, refl, refl)
form_parts false false false e = absurd (cc)
form_parts false true c e = absurd (cc)
form_parts true b c e = absurd (cc)

is_formed : (bytes : List ℕ) → has_form bytes ≡ true → IsFormed bytes
is_formed bytes form =
    let parts = form_parts (nat_lt (length bytes) 6) (nat_lt (length bytes) (name_end bytes + 2)) _ form in
    record {
      six = ltb-false (length bytes) 6 parts.0;
      name = ltb-false (length bytes) (name_end bytes + 2) parts.1;
      numbers = eqb-true _ _ parts.2;
    }

question_fits : (bytes : List ℕ) → AreBytes bytes → IsFormed bytes → FitsQuestion (question_of bytes)
question_fits bytes all is =
    let n = number32 bytes 0 in
    let count : length (numbers_in (requests_in bytes)) ≡ number16 bytes (name_end bytes) =
    count_numbers (number16 bytes (name_end bytes)) (requests_in bytes) is.numbers in
    record {
      name = rw (length-part bytes 4 n (omega (arith, is.name))) (number32-fits bytes 0 all (omega (arith, is.six)));
      count = rw count (number16-fits bytes (name_end bytes) all is.name);
      each = numbers_fit (number16 bytes (name_end bytes)) (requests_in bytes) (bytes_behind (name_end bytes + 2) bytes all) is.numbers;
    }

question_spelled : (bytes : List ℕ) → AreBytes bytes → IsFormed bytes → bytes ≡ question_bytes (question_of bytes)
question_spelled bytes all is =
    let n = number32 bytes 0 in
    let k = 4 + n in
    let count : length (numbers_in (requests_in bytes)) ≡ number16 bytes k =
    count_numbers (number16 bytes k) (requests_in bytes) is.numbers in
    let p0 : bytes32 (length (part bytes 4 n)) ≡ take 4 bytes =
    ap (λ m. bytes32 m) (length-part bytes 4 n (omega (arith, is.name))) ∙ bytes32-number32 bytes 0 all (omega (arith, is.six)) in
    let p2 : bytes16 (length (numbers_in (requests_in bytes))) ≡ part bytes k 2 =
    ap (λ m. bytes16 m) count ∙ bytes16-number16 bytes k all is.name in
    let p3 : flat_map bytes16 (numbers_in (requests_in bytes)) ≡ drop (k + 2) bytes =
    numbers_spelled (number16 bytes k) (requests_in bytes) (bytes_behind (k + 2) bytes all) is.numbers in
    let q1 : take k bytes ≡ take 4 bytes ++ part bytes 4 n = take-add 4 n bytes in
    let q2 : take (k + 2) bytes ≡ take k bytes ++ part bytes k 2 = take-add k 2 bytes in
    let q3 : take (k + 2) bytes ++ drop (k + 2) bytes ≡ bytes = take-append-drop (k + 2) bytes in
    cc

some_inquiry : (b : Bool) (x inquiry : Inquiry) → (if b then Some x else None) ≡ Some inquiry → (b ≡ true) × (inquiry ≡ x)
some_inquiry true x inquiry e = (refl, cc)
some_inquiry false x inquiry e = absurd (cc)

pub spells_questions : SpellsQuestions
spells_questions = record {
  again = λ q fits. let s = stands q fits in (inquiry_read q fits s, question_read q fits s);
  one = λ bytes inquiry all taken.
      let some = some_inquiry (has_form bytes) (inquiry_for (question_of bytes)) inquiry taken in
      let is = is_formed bytes some.0 in
      (question_fits bytes all is, question_spelled bytes all is, some.1);
}
