-- What stands in front of a word's first comma, and of its first item's end.
use Rattle.std.proofs.Common.{◌≡◌, ℕ, ◌+◌, ◌-◌, ◌<◌, ◌==◌, Bool, true, false, if◌then◌else◌, List, [], ◌∷◌, ◌++◌, length, refl, ap, sym, ◌∙◌, append_assoc, arith, suc, Option, Some, None, option_map}
use Rattle.std.proofs.lemmas.List.{append-nil, length-append}
use Rattle.qs_keyval.specs.Cutting.{Sides, sides, in_front, split_first, comma, onto, cut, texts_of, spelled, joined, AreTexts, HasNoComma, Item, items_placed, trimmed, items_from}
use Rattle.qs_keyval.proofs.Spelling.{prepend, prepend_none, cut_spelled, ends_item, spelled_back, stand_apart}

-- a word without a comma, or with its first one behind the front
abbrev Split : List ℕ → Option Sides → Type 0
Split word None = word ≡ spelled word
Split word (Some x) = word ≡ spelled x.0 ++ comma ∷ x.1

split_on : (b : ℕ) (bytes : List ℕ) (o : Option Sides) → (b == comma) ≡ false → Split bytes o → Split (b ∷ bytes) (option_map (in_front b) o)
split_on b bytes None is h = rw is (ap (λ xs. b ∷ xs) h)
split_on b bytes (Some x) is h = rw is (ap (λ xs. b ∷ xs) h)

split_step : (e : Bool) (b : ℕ) (bytes : List ℕ) → (b == comma) ≡ e → Split bytes (split_first comma bytes) →
    Split (b ∷ bytes) (if e then sides [] bytes else option_map (in_front b) (split_first comma bytes))
split_step true b bytes is h = let e : b ≡ comma = grind (arith, is) in ap (λ x. x ∷ bytes) e
split_step false b bytes is h = split_on b bytes (split_first comma bytes) is h

splits : (word : List ℕ) → Split word (split_first comma word)
splits [] = refl
splits (b ∷ bytes) = split_step (b == comma) b bytes refl (splits bytes)

pub splits_some : (word front rest : List ℕ) → split_first comma word ≡ sides front rest → word ≡ spelled front ++ comma ∷ rest
splits_some word front rest e = rw e at (splits word)

pub splits_none : (word : List ℕ) → split_first comma word ≡ None → word ≡ spelled word
splits_none word e = rw e at (splits word)

pub splits_shorter : (word front rest : List ℕ) → split_first comma word ≡ sides front rest → length rest < length word
splits_shorter word front rest e = omega (arith, ap (λ xs. length xs) (splits_some word front rest e), length-append (spelled front) (comma ∷ rest))

texts_split : (word front rest : List ℕ) → split_first comma word ≡ sides front rest → texts_of word ≡ prepend front (cut true rest)
texts_split word front rest e = ap (λ xs. cut false xs) (splits_some word front rest e) ∙ cut_spelled front (comma ∷ rest)

prepend_twice : (a b : List ℕ) (texts : List (List ℕ)) → prepend a (prepend b texts) ≡ prepend (a ++ b) texts
prepend_twice a b [] = refl
prepend_twice a b (text ∷ texts) = ap (λ xs. xs ∷ texts) (sym (append_assoc a b text))

prepend_onto : (a : List ℕ) (b : ℕ) (texts : List (List ℕ)) → prepend a (onto b texts) ≡ prepend (a ++ b ∷ []) texts
prepend_onto a b [] = refl
prepend_onto a b (text ∷ texts) = ap (λ xs. xs ∷ texts) (sym (append_assoc a (b ∷ []) text))

-- the text so far stands in front of the first text of the rest
abbrev pub IsSoFar : List ℕ → List ℕ → List ℕ → Type 0
IsSoFar word text rest = texts_of word ≡ prepend text (texts_of rest)

pub so_far_none : (word : List ℕ) → IsSoFar word [] word
so_far_none word = prepend_none (texts_of word) (stand_apart word false)

-- behind a doubled comma
pub so_far_more : (word text rest front next more : List ℕ) → IsSoFar word text rest → split_first comma rest ≡ sides front next → next ≡ comma ∷ more →
    IsSoFar word ((text ++ front) ++ comma ∷ []) more
so_far_more word text rest front next more so e f =
    so ∙ ap (λ xs. prepend text xs) (texts_split rest front next e ∙ ap (λ xs. prepend front (cut true xs)) f) ∙
    prepend_twice text front (onto comma (texts_of more)) ∙ prepend_onto (text ++ front) comma (texts_of more)

no_comma : (rest : List ℕ) → HasNoComma rest → cut true rest ≡ [] ∷ texts_of rest
no_comma [] h = refl
no_comma (b ∷ bytes) h = ends_item b bytes h

-- at a comma that ends the item
so_far_ended : (word text rest front next : List ℕ) → IsSoFar word text rest → split_first comma rest ≡ sides front next → HasNoComma next →
    texts_of word ≡ (text ++ front) ∷ texts_of next
so_far_ended word text rest front next so e h =
    so ∙ ap (λ xs. prepend text xs) (texts_split rest front next e ∙ ap (λ xs. prepend front xs) (no_comma next h)) ∙
    ap (λ xs. (text ++ xs) ∷ texts_of next) (append-nil front)

-- at the end of the word
so_far_last : (word text rest : List ℕ) → IsSoFar word text rest → split_first comma rest ≡ None → texts_of word ≡ (text ++ rest) ∷ []
so_far_last word text rest so e =
    so ∙ ap (λ xs. prepend text (cut false xs)) (splits_none rest e ∙ sym (append-nil (spelled rest))) ∙
    ap (λ xs. prepend text xs) (cut_spelled rest []) ∙ ap (λ xs. (text ++ xs) ∷ []) (append-nil rest)

joined_more : (text : List ℕ) (texts : List (List ℕ)) → AreTexts texts → joined (text ∷ texts) ≡ spelled text ++ comma ∷ joined texts
joined_more text [] are = absurd are
joined_more text (other ∷ texts) are = refl

word_is : (word text next : List ℕ) → texts_of word ≡ text ∷ texts_of next → word ≡ spelled text ++ comma ∷ next
word_is word text next e =
    sym (spelled_back word) ∙ ap (λ xs. joined xs) e ∙ joined_more text (texts_of next) (stand_apart next false) ∙
    ap (λ xs. spelled text ++ comma ∷ xs) (spelled_back next)

trimmed_more : (text : List ℕ) (texts : List (List ℕ)) → AreTexts texts → trimmed (text ∷ texts) ≡ text ∷ trimmed texts
trimmed_more text [] are = absurd are
trimmed_more [] (other ∷ texts) are = refl
trimmed_more (b ∷ text) (other ∷ texts) are = refl

-- a word is its first item, and the items of what stands behind the comma that ends it
pub record IsFront (word text next : List ℕ) : Type 0 where
  pub items : (at : ℕ) → items_from at word ≡ record { at = at; text = text } ∷ items_from (at + (length word - length next)) next
  pub shorter : length next < length word

place : (at word text next : ℕ) → word ≡ text + suc next → at + text + 1 ≡ at + (word - next)
place at word text next e = omega (arith, e)

item_of : ℕ → List ℕ → Item
item_of at text = record { at = at; text = text }

front_is : (word text next : List ℕ) → texts_of word ≡ text ∷ texts_of next → IsFront word text next
front_is word text next e =
    let long : length word ≡ length (spelled text) + suc (length next) = ap (λ xs. length xs) (word_is word text next e) ∙ length-append (spelled text) (comma ∷ next) in
    record {
      items = λ at. ap (λ xs. items_placed at (trimmed xs)) e ∙ ap (λ xs. items_placed at xs) (trimmed_more text (texts_of next) (stand_apart next false)) ∙
          ap (λ n. record { at = at; text = text } ∷ items_placed n (trimmed (texts_of next))) (place at (length word) (length (spelled text)) (length next) long);
      shorter = omega (arith, long);
    }

last_text : (word text : List ℕ) → texts_of word ≡ text ∷ [] → 0 < length word → trimmed (text ∷ []) ≡ text ∷ []
last_text word [] e some = absurd (omega (arith, some, ap (λ xs. length xs) (sym (spelled_back word) ∙ ap (λ xs. joined xs) e)))
last_text word (b ∷ text) e some = refl

last_is : (word text : List ℕ) → 0 < length word → texts_of word ≡ text ∷ [] → IsFront word text []
last_is word text some e = record {
  items = λ at. ap (λ xs. items_placed at (trimmed xs)) e ∙ ap (λ xs. items_placed at xs) (last_text word text e some);
  shorter = some;
}

pub front_ended : (word text rest front next : List ℕ) → IsSoFar word text rest → split_first comma rest ≡ sides front next → HasNoComma next →
    IsFront word (text ++ front) next
front_ended word text rest front next so e h = front_is word (text ++ front) next (so_far_ended word text rest front next so e h)

pub front_last : (word text rest : List ℕ) → 0 < length word → IsSoFar word text rest → split_first comma rest ≡ None → IsFront word (text ++ rest) []
front_last word text rest some so e = last_is word (text ++ rest) some (so_far_last word text rest so e)
