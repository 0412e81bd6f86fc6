-- No text of JSON has a carriage return, so a message ends at its first one.
use Rattle.std.proofs.Common.{◌≡◌, ℕ, zero, suc, ◌/◌, ◌%◌, ◌+◌, ◌==◌, ◌||◌, ◌<◌, Bool, true, false, cond, if◌then◌else◌, List, [], ◌∷◌, ◌++◌, refl, sym, ap, subst, ◌∙◌, arith}
use Rattle.std.specs.Prelude.{nat_lt, pos, negsuc, ℤ}
use Rattle.std.specs.Char.{digit_char}
use Rattle.std.specs.Fmt.{digits, digits_onto, digit_glyph, decimal, signed_decimal}
use Rattle.std.proofs.lemmas.List.Concat.{flat_map-cons}
use Rattle.json.specs.Print.{escape_letter, escape_byte, escape, quoted}
use Rattle.serde_json.specs.Data.{Num, unsigned, negative, float, Data, null, boolean, number, string, array, object, Items, no_items, item, Members, no_members, member}
use Rattle.serde_json.specs.Written.{number_text, comma_if, compact_text, items_text, members_text}
use Rattle.qs_qmp_write.specs.Texts.{AreApart}

-- no byte of the list is a carriage return
abbrev IsClear : List ℕ → Type 0
IsClear [] = Unit {0}
IsClear (b ∷ bs) = ((b == 13) ≡ false) × IsClear bs

clear_append : (x y : List ℕ) → IsClear x → IsClear y → IsClear (x ++ y)
clear_append [] y cx cy = cy
clear_append (b ∷ x) y cx cy = (cx.0, clear_append x y cx.1 cy)

clear_if : (e : Bool) (x y : List ℕ) → IsClear x → IsClear y → IsClear (if e then x else y)
clear_if true x y cx cy = cx
clear_if false x y cx cy = cy

-- ---- bytes

not_cr : (e : Bool) (b : ℕ) → (b == 13) ≡ e → (b ≡ 13 → ⊥) → (b == 13) ≡ false
not_cr true b is never = absurd (never (grind (arith, is)))
not_cr false b is never = is

far_from_cr : (b : ℕ) → 13 < b → (b == 13) ≡ false
far_from_cr b above = not_cr (b == 13) b refl (λ h. omega (arith, above, h))

glyph_far : (e : Bool) (d : ℕ) → 13 < (if e then 48 + d else 87 + d)
glyph_far true d = omega arith
glyph_far false d = omega arith

char_far : (e : Bool) (d : ℕ) → 13 < cond e (48 + d) (87 + d)
char_far true d = omega arith
char_far false d = omega arith

-- ---- numbers

onto_clear : (k n : ℕ) (acc : List ℕ) → IsClear acc → IsClear (digits_onto k 10 false n acc)
onto_clear zero n acc c = c
onto_clear (suc k) n acc c =
    let more : IsClear (digit_glyph false (n % 10) ∷ acc) = (far_from_cr (digit_glyph false (n % 10)) (glyph_far (nat_lt (n % 10) 10) (n % 10)), c) in
    clear_if (n / 10 == 0) _ _ more (onto_clear k (n / 10) (digit_glyph false (n % 10) ∷ acc) more)

decimal_clear : (n : ℕ) → IsClear (decimal n)
unfolding digits
decimal_clear n = onto_clear 64 n [] tt

signed_clear : (z : ℤ) → IsClear (signed_decimal z)
signed_clear (pos n) = decimal_clear n
signed_clear (negsuc n) = (refl, decimal_clear (suc n))

number_clear : (n : Num) → IsClear (number_text n)
number_clear (unsigned n) = decimal_clear n
number_clear (negative z) = signed_clear z
number_clear (float x) = tt

-- ---- strings

cond_clear : (e : Bool) (m n : ℕ) → (e ≡ true → (m == 13) ≡ false) → (n == 13) ≡ false → (cond e m n == 13) ≡ false
cond_clear true m n cm cn = cm refl
cond_clear false m n cm cn = cn

same_letter : (x : ℕ) → ((x == 34) || (x == 92)) ≡ true → x ≡ 13 → ⊥
same_letter x is h =
    let no_letter : ((13 == 34) || (13 == 92)) ≡ true = subst (λ (n : ℕ). ((n == 34) || (n == 92)) ≡ true) h is in
    absurd cc

letter_clear : (x : ℕ) → (escape_letter x == 13) ≡ false
letter_clear x =
    cond_clear ((x == 34) || (x == 92)) x _ (λ is. not_cr (x == 13) x refl (same_letter x is))
    (cond_clear (x == 8) 98 _ (λ is. refl)
    (cond_clear (x == 12) 102 _ (λ is. refl)
    (cond_clear (x == 10) 110 _ (λ is. refl)
    (cond_clear (x == 13) 114 _ (λ is. refl)
    (cond_clear (x == 9) 116 0 (λ is. refl) refl)))))

control_clear : (x : ℕ) → IsClear (92 ∷ 117 ∷ 48 ∷ 48 ∷ digit_char (x / 16) ∷ digit_char (x % 16) ∷ [])
control_clear x = (
  refl,
  (
    refl,
    (
      refl,
      (
        refl,
        (
          far_from_cr (digit_char (x / 16)) (char_far (nat_lt (x / 16) 10) (x / 16)),
          (far_from_cr (digit_char (x % 16)) (char_far (nat_lt (x % 16) 10) (x % 16)), tt),
        ),
      ),
    ),
  ),
)

plain_clear : (e : Bool) (x : ℕ) → nat_lt x 32 ≡ e → (control : List ℕ) → IsClear control → IsClear (cond e control (x ∷ []))
plain_clear true x is control c = c
plain_clear false x is control c = (far_from_cr x (grind (arith, is)), tt)

escaped_clear : (e : Bool) (letter rest : List ℕ) → IsClear letter → IsClear rest → IsClear (cond e letter rest)
escaped_clear true letter rest cl cr = cl
escaped_clear false letter rest cl cr = cr

byte_clear : (x : ℕ) → IsClear (escape_byte x)
unfolding escape_byte
byte_clear x =
    escaped_clear (nat_lt 0 (escape_letter x)) (92 ∷ escape_letter x ∷ []) _ (refl, (letter_clear x, tt))
    (plain_clear (nat_lt x 32) x refl _ (control_clear x))

escape_clear : (s : List ℕ) → IsClear (escape s)
escape_clear [] = tt
escape_clear (b ∷ s) = subst IsClear (sym (flat_map-cons escape_byte b s)) (clear_append (escape_byte b) (escape s) (byte_clear b) (escape_clear s))

quoted_clear : (s : List ℕ) → IsClear (quoted s)
quoted_clear s = (refl, clear_append (escape s) (34 ∷ []) (escape_clear s) (refl, tt))

-- ---- values

comma_clear : (later : Bool) → IsClear (comma_if later)
comma_clear true = (refl, tt)
comma_clear false = tt

mutual
  text_clear : (d : Data) → IsClear (compact_text d)
  text_clear null = (refl, (refl, (refl, (refl, tt))))
  text_clear (boolean true) = (refl, (refl, (refl, (refl, tt))))
  text_clear (boolean false) = (refl, (refl, (refl, (refl, (refl, tt)))))
  text_clear (number n) = number_clear n
  text_clear (string s) = quoted_clear s
  text_clear (array ds) = (refl, items_clear false ds)
  text_clear (object ms) = (refl, members_clear false ms)

  items_clear : (later : Bool) (ds : Items) → IsClear (items_text later ds)
  items_clear later no_items = (refl, tt)
  items_clear later (item d ds) =
      clear_append (comma_if later) _ (comma_clear later) (clear_append (compact_text d) _ (text_clear d) (items_clear true ds))

  members_clear : (later : Bool) (ms : Members) → IsClear (members_text later ms)
  members_clear later no_members = (refl, tt)
  members_clear later (member k d ms) =
      clear_append (comma_if later) _ (comma_clear later)
      (clear_append (quoted k) _ (quoted_clear k) (refl, clear_append (compact_text d) _ (text_clear d) (members_clear true ms)))

-- ---- streams

ended : (x y xs ys : List ℕ) → IsClear x → IsClear y → x ++ 13 ∷ 10 ∷ xs ≡ y ++ 13 ∷ 10 ∷ ys → (x ≡ y) × (xs ≡ ys)
ended [] [] xs ys cx cy e = (refl, cc)
ended [] (b ∷ y) xs ys cx cy e = absurd cc
ended (b ∷ x) [] xs ys cx cy e = absurd cc
ended (a ∷ x) (b ∷ y) xs ys cx cy e =
    let h : a ≡ b = cc in
    let t : x ++ 13 ∷ 10 ∷ xs ≡ y ++ 13 ∷ 10 ∷ ys = cc in
    let more = ended x y xs ys cx.1 cy.1 t in
    (rw h (ap (λ (l : List ℕ). b ∷ l) more.0), more.1)

behind : (x xs : List ℕ) → (x ++ 13 ∷ 10 ∷ []) ++ xs ≡ x ++ 13 ∷ 10 ∷ xs
behind [] xs = refl
behind (b ∷ x) xs = ap (λ (l : List ℕ). b ∷ l) (behind x xs)

pub are_apart : AreApart
are_apart d e xs ys same =
    let both = ended (compact_text d) (compact_text e) xs ys (text_clear d) (text_clear e)
    (sym (behind (compact_text d) xs) ∙ same ∙ behind (compact_text e) ys) in
    (ap (λ (l : List ℕ). l ++ 13 ∷ 10 ∷ []) both.0, both.1)
