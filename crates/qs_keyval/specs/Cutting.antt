-- How a word is cut at its commas. Two commas beside each other stand for one in a text; pairs are taken from the left.
use Rattle.std.specs.Prelude.{◌≡◌, ℕ, ◌+◌, Bool, true, false, ◌==◌, if◌then◌else◌, List, [], ◌∷◌, ◌++◌, length, Option, Some, None, option_map}
use Rattle.std.specs.List.{flat_map}

abbrev pub comma : ℕ
comma = 44

-- the byte in front of the first of the texts
abbrev pub onto : ℕ → List (List ℕ) → List (List ℕ)
onto b [] = (b ∷ []) ∷ []
onto b (text ∷ texts) = (b ∷ text) ∷ texts

-- the texts of a word, where a comma before it may already wait for a second one
abbrev pub cut : Bool → List ℕ → List (List ℕ)
cut false [] = [] ∷ []
cut false (b ∷ bytes) = if b == comma then cut true bytes else onto b (cut false bytes)
cut true [] = [] ∷ [] ∷ []
cut true (b ∷ bytes) = if b == comma then onto comma (cut false bytes) else [] ∷ onto b (cut false bytes)

abbrev pub texts_of : List ℕ → List (List ℕ)
texts_of word = cut false word

-- a text with each comma doubled
abbrev pub spelled_byte : ℕ → List ℕ
spelled_byte b = if b == comma then comma ∷ comma ∷ [] else b ∷ []

abbrev pub spelled : List ℕ → List ℕ
spelled text = flat_map spelled_byte text

-- the texts spelled, with a comma between each two
abbrev pub joined : List (List ℕ) → List ℕ
joined [] = []
joined (text ∷ []) = spelled text
joined (text ∷ other ∷ texts) = spelled text ++ comma ∷ joined (other ∷ texts)

-- a text that isn't first begins with no comma, and is empty at the end alone: so that the comma before it is no half
-- of a pair
abbrev pub StandsApart : List (List ℕ) → Type 0
StandsApart [] = Unit {0}
StandsApart ([] ∷ []) = Unit {0}
StandsApart ([] ∷ other ∷ texts) = ⊥
StandsApart ((b ∷ text) ∷ texts) = ((b == comma) ≡ false) × StandsApart texts

abbrev pub AreTexts : List (List ℕ) → Type 0
AreTexts [] = ⊥
AreTexts (text ∷ texts) = StandsApart texts

-- a word is its texts, spelled and joined; and such texts are those of the word that they spell
pub record SpellsTexts : Type 0 where
  pub apart : (word : List ℕ) → AreTexts (texts_of word)
  pub spelled : (word : List ℕ) → joined (texts_of word) ≡ word
  pub again : (texts : List (List ℕ)) → AreTexts texts → texts_of (joined texts) ≡ texts

-- what stands before a mark, and what stands behind it
abbrev pub Sides : Type 0
Sides = List ℕ × List ℕ

abbrev pub sides : List ℕ → List ℕ → Option Sides
sides front behind = Some (front, behind)

abbrev pub in_front : ℕ → Sides → Sides
in_front b x = (b ∷ x.0, x.1)

-- what stands before the first such mark, and what stands behind it
abbrev pub split_first : ℕ → List ℕ → Option Sides
split_first mark [] = None
split_first mark (b ∷ bytes) = if b == mark then sides [] bytes else option_map (in_front b) (split_first mark bytes)

-- a text, and the byte of the word where it begins
pub record Item : Type 0 where
  pub at : ℕ
  pub text : List ℕ

-- the texts with their places, the first at this one
abbrev pub items_placed : ℕ → List (List ℕ) → List Item
items_placed at [] = []
items_placed at (text ∷ texts) = record { at = at; text = text } ∷ items_placed (at + length (spelled text) + 1) texts

-- an empty text at the end is passed over
abbrev pub trimmed : List (List ℕ) → List (List ℕ)
trimmed [] = []
trimmed ([] ∷ []) = []
trimmed ([] ∷ other ∷ texts) = [] ∷ trimmed (other ∷ texts)
trimmed ((b ∷ text) ∷ texts) = (b ∷ text) ∷ trimmed texts

abbrev pub items_from : ℕ → List ℕ → List Item
items_from at word = items_placed at (trimmed (texts_of word))

-- the text doesn't begin with a comma
abbrev pub HasNoComma : List ℕ → Type 0
HasNoComma [] = Unit {0}
HasNoComma (b ∷ bytes) = (b == comma) ≡ false
