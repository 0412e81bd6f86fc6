-- A word and its texts spell each other.
use Rattle.std.proofs.Common.{◌≡◌, ℕ, ◌==◌, Bool, true, false, if◌then◌else◌, List, [], ◌∷◌, ◌++◌, refl, ap, sym, ◌∙◌, append_assoc, arith}
use Rattle.std.proofs.lemmas.List.{append-nil}
use Rattle.qs_keyval.specs.Cutting.{comma, onto, cut, texts_of, spelled_byte, spelled, joined, StandsApart, AreTexts, SpellsTexts}

joined-onto : (b : ℕ) (texts : List (List ℕ)) → joined (onto b texts) ≡ spelled_byte b ++ joined texts
joined-onto b [] = refl
joined-onto b (text ∷ []) = refl
joined-onto b (text ∷ other ∷ texts) = append_assoc (spelled_byte b) (spelled text) (comma ∷ joined (other ∷ texts))

joined-end : (b : ℕ) (texts : List (List ℕ)) → joined ([] ∷ onto b texts) ≡ comma ∷ joined (onto b texts)
joined-end b [] = refl
joined-end b (text ∷ texts) = refl

-- the comma that waits, and the bytes
abbrev waiting : Bool → List ℕ → List ℕ
waiting false bytes = bytes
waiting true bytes = comma ∷ bytes

spells_false : (e : Bool) (b : ℕ) (bytes : List ℕ) → (b == comma) ≡ e → joined (cut true bytes) ≡ comma ∷ bytes → joined (cut false bytes) ≡ bytes →
    joined (if e then cut true bytes else onto b (cut false bytes)) ≡ b ∷ bytes
spells_false true b bytes is after before = let h : b ≡ comma = grind (arith, is) in rw h after
spells_false false b bytes is after before = joined-onto b (cut false bytes) ∙ rw is (ap (λ xs. b ∷ xs) before)

spells_true : (e : Bool) (b : ℕ) (bytes : List ℕ) → (b == comma) ≡ e → joined (cut false bytes) ≡ bytes →
    joined (if e then onto comma (cut false bytes) else [] ∷ onto b (cut false bytes)) ≡ comma ∷ b ∷ bytes
spells_true true b bytes is before =
    let h : b ≡ comma = grind (arith, is) in rw h (joined-onto comma (cut false bytes) ∙ ap (λ xs. comma ∷ comma ∷ xs) before)
spells_true false b bytes is before =
    joined-end b (cut false bytes) ∙ ap (λ xs. comma ∷ xs) (joined-onto b (cut false bytes) ∙ rw is (ap (λ xs. b ∷ xs) before))

spells : (bytes : List ℕ) (w : Bool) → joined (cut w bytes) ≡ waiting w bytes
spells [] false = refl
spells [] true = refl
spells (b ∷ bytes) false = spells_false (b == comma) b bytes refl (spells bytes true) (spells bytes false)
spells (b ∷ bytes) true = spells_true (b == comma) b bytes refl (spells bytes false)

pub spelled_back : (word : List ℕ) → joined (texts_of word) ≡ word
spelled_back word = spells word false

onto-apart : (b : ℕ) (texts : List (List ℕ)) → AreTexts texts → AreTexts (onto b texts)
onto-apart b [] are = absurd are
onto-apart b (text ∷ texts) are = are

onto-stands : (b : ℕ) (texts : List (List ℕ)) → (b == comma) ≡ false → AreTexts texts → StandsApart (onto b texts)
onto-stands b [] is are = absurd are
onto-stands b (text ∷ texts) is are = (is, are)

apart_false : (e : Bool) (b : ℕ) (bytes : List ℕ) → AreTexts (cut true bytes) → AreTexts (cut false bytes) →
    AreTexts (if e then cut true bytes else onto b (cut false bytes))
apart_false true b bytes after before = after
apart_false false b bytes after before = onto-apart b (cut false bytes) before

apart_true : (e : Bool) (b : ℕ) (bytes : List ℕ) → (b == comma) ≡ e → AreTexts (cut false bytes) →
    AreTexts (if e then onto comma (cut false bytes) else [] ∷ onto b (cut false bytes))
apart_true true b bytes is before = onto-apart comma (cut false bytes) before
apart_true false b bytes is before = onto-stands b (cut false bytes) is before

pub stand_apart : (bytes : List ℕ) (w : Bool) → AreTexts (cut w bytes)
stand_apart [] false = tt
stand_apart [] true = tt
stand_apart (b ∷ bytes) false = apart_false (b == comma) b bytes (stand_apart bytes true) (stand_apart bytes false)
stand_apart (b ∷ bytes) true = apart_true (b == comma) b bytes refl (stand_apart bytes false)

-- the bytes in front of the first of the texts
abbrev pub prepend : List ℕ → List (List ℕ) → List (List ℕ)
prepend front [] = front ∷ []
prepend front (text ∷ texts) = (front ++ text) ∷ texts

onto-prepend : (b : ℕ) (front : List ℕ) (texts : List (List ℕ)) → onto b (prepend front texts) ≡ prepend (b ∷ front) texts
onto-prepend b front [] = refl
onto-prepend b front (text ∷ texts) = refl

cut_byte : (e : Bool) (b : ℕ) (bytes : List ℕ) → (b == comma) ≡ e → cut false ((if e then comma ∷ comma ∷ [] else b ∷ []) ++ bytes) ≡ onto b (cut false bytes)
cut_byte true b bytes is = let h : b ≡ comma = grind (arith, is) in rw h refl
cut_byte false b bytes is = rw is refl

pub prepend_none : (texts : List (List ℕ)) → AreTexts texts → texts ≡ prepend [] texts
prepend_none [] are = absurd are
prepend_none (text ∷ texts) are = refl

pub cut_spelled : (text more : List ℕ) → cut false (spelled text ++ more) ≡ prepend text (cut false more)
cut_spelled [] more = prepend_none (cut false more) (stand_apart more false)
cut_spelled (b ∷ text) more =
    ap (λ xs. cut false xs) (append_assoc (spelled_byte b) (spelled text) more) ∙ cut_byte (b == comma) b (spelled text ++ more) refl ∙
    ap (λ xs. onto b xs) (cut_spelled text more) ∙ onto-prepend b text (cut false more)

-- a byte that is no comma stands behind one that ends an item
pub ends_item : (b : ℕ) (bytes : List ℕ) → (b == comma) ≡ false → cut true (b ∷ bytes) ≡ [] ∷ cut false (b ∷ bytes)
ends_item b bytes is = rw is refl

record BeginsSo (b : ℕ) (bytes : List ℕ) : Type 0 where
  rest : List ℕ
  is : bytes ≡ b ∷ rest

joined_begins : (b : ℕ) (text : List ℕ) (texts : List (List ℕ)) → (b == comma) ≡ false → BeginsSo b (joined ((b ∷ text) ∷ texts))
joined_begins b text [] is = record { rest = spelled text; is = rw is refl }
joined_begins b text (other ∷ texts) is = record { rest = spelled text ++ comma ∷ joined (other ∷ texts); is = rw is refl }

-- texts that stand apart begin behind a comma that ends an item
behind : (text : List ℕ) (texts : List (List ℕ)) → StandsApart (text ∷ texts) → cut false (joined (text ∷ texts)) ≡ text ∷ texts →
    cut true (joined (text ∷ texts)) ≡ [] ∷ text ∷ texts
behind [] [] stand again = refl
behind [] (other ∷ texts) stand again = absurd stand
behind (b ∷ text) texts stand again =
    let j = joined_begins b text texts stand.0 in
    ap (λ xs. cut true xs) j.is ∙ ends_item b j.rest stand.0 ∙ ap (λ xs. [] ∷ cut false xs) (sym j.is) ∙ ap (λ xs. [] ∷ xs) again

stand_on : (text : List ℕ) (texts : List (List ℕ)) → StandsApart (text ∷ texts) → StandsApart texts
stand_on [] [] stand = tt
stand_on [] (other ∷ texts) stand = absurd stand
stand_on (b ∷ text) texts stand = stand.1

again : (texts : List (List ℕ)) → AreTexts texts → texts_of (joined texts) ≡ texts
again [] are = absurd are
again (text ∷ []) are =
    ap (λ xs. cut false xs) (sym (append-nil (spelled text))) ∙ cut_spelled text [] ∙ ap (λ xs. xs ∷ []) (append-nil text)
again (text ∷ other ∷ texts) are =
    cut_spelled text (comma ∷ joined (other ∷ texts)) ∙
    ap (λ xs. prepend text xs) (behind other texts are (again (other ∷ texts) (stand_on other texts are))) ∙
    ap (λ xs. xs ∷ other ∷ texts) (append-nil text)

pub spells_texts : SpellsTexts
spells_texts = record { apart = λ word. stand_apart word false; spelled = spelled_back; again = again }
