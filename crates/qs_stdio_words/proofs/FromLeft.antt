-- Words that are read from the left.
use Rattle.std.proofs.Common.{◌≡◌, ℕ, zero, suc, ◌+◌, ◌<◌, ◌≤◌, List, [], ◌∷◌, length, take, drop, get_or, refl, sym, ap, ◌∙◌, arith}
use Rattle.std.proofs.lemmas.Option.{none-some}
use Rattle.std.specs.Prelude.{Option, None, Some, String, option_and_then, unwrap_or}
use Rattle.std.specs.Global.{Global}
use Rattle.qs_stdio_words.specs.declared.words.Reading.{Reading}
use Rattle.qs_stdio_words.specs.Words.{and_then, command, nothing_read, read, words_of_reading}

-- the words from one on
drop_here : (words : List (String Global)) (i : ℕ) (word : String Global) → i < length words → word ≡ get_or words i word →
    drop i words ≡ word ∷ drop (suc i) words
drop_here [] i word less is = absurd (omega (arith, less))
drop_here (w ∷ words) zero word less is = ap (λ (x : String Global). x ∷ words) (sym is)
drop_here (w ∷ words) (suc i) word less is = drop_here words i word (omega (arith, less)) is

-- behind the last word
drop_all : (words : List (String Global)) (i : ℕ) → length words ≤ i → drop i words ≡ []
drop_all [] zero less = refl
drop_all [] (suc i) less = refl
drop_all (w ∷ words) zero less = absurd (omega (arith, less))
drop_all (w ∷ words) (suc i) less = drop_all words i (omega (arith, less))

-- a word was read: what is left of the words, read on from it
left_with : (words : List (String Global)) (i : ℕ) (word : String Global) (r : Reading) (o : Option Reading) → i < length words → word ≡ get_or words i word →
    and_then r word ≡ o → read r (drop i words) ≡ option_and_then (λ (n : Reading). read n (drop (suc i) words)) o
unfolding read
left_with words i word r o less is same =
    ap (read r) (drop_here words i word less is)
    ∙ ap (λ (o : Option Reading). option_and_then (λ (n : Reading). read n (drop (suc i) words)) o) same

pub read_more : (words : List (String Global)) (i : ℕ) (word : String Global) (r next : Reading) → i < length words → word ≡ get_or words i word →
    and_then r word ≡ Some next → read r (drop i words) ≡ read nothing_read words → read next (drop (i + 1) words) ≡ read nothing_read words
read_more words i word r next less is same so =
    let one : i + 1 ≡ suc i = omega arith in
    ap (λ (j : ℕ). read next (drop j words)) one ∙ sym (left_with words i word r (Some next) less is same) ∙ so

-- a word may not stand there
pub read_none : (words : List (String Global)) (i : ℕ) (word : String Global) (r : Reading) → i < length words → word ≡ get_or words i word →
    and_then r word ≡ None → read r (drop i words) ≡ read nothing_read words → command words ≡ None
read_none words i word r less is same so =
    ap (λ (o : Option Reading). option_and_then (words_of_reading (length words)) o) (sym so ∙ left_with words i word r None less is same)

-- all words were read
pub read_all : (words : List (String Global)) (i : ℕ) (r : Reading) → length words ≤ i → read r (drop i words) ≡ read nothing_read words →
    command words ≡ words_of_reading (length words) r
unfolding read
read_all words i r less so =
    ap (λ (o : Option Reading). option_and_then (words_of_reading (length words)) o) (sym so ∙ ap (read r) (drop_all words i less))

some_same : (o : Option Reading) → option_and_then (λ (n : Reading). Some n) o ≡ o
some_same None = refl
some_same (Some n) = refl

-- one more word behind those that were read
front_suc : (words : List (String Global)) (i : ℕ) (word : String Global) (s r : Reading) → i < length words → word ≡ get_or words i word →
    read s (take i words) ≡ Some r → read s (take (suc i) words) ≡ and_then r word
unfolding read
front_suc [] i word s r less is so = absurd (omega (arith, less))
front_suc (w ∷ words) zero word s r less is so =
    some_same (and_then s w) ∙ ap (λ (n : Reading). and_then n w) (ap (λ (o : Option Reading). unwrap_or o s) so) ∙ ap (λ (x : String Global). and_then r x) (sym is)
front_suc (w ∷ words) (suc i) word s r less is so =
    by_word (and_then s w) so (λ n. front_suc words i word n r (omega (arith, less)) is)
  where
    by_word : (o : Option Reading) → option_and_then (λ (n : Reading). read n (take i words)) o ≡ Some r →
        ((n : Reading) → read n (take i words) ≡ Some r → read n (take (suc i) words) ≡ and_then r word) →
        option_and_then (λ (n : Reading). read n (take (suc i) words)) o ≡ and_then r word
    by_word None so more = absurd (none-some r so)
    by_word (Some n) so more = more n so

pub front_with : (words : List (String Global)) (i : ℕ) (word : String Global) (s r : Reading) → i < length words → word ≡ get_or words i word →
    read s (take i words) ≡ Some r → read s (take (i + 1) words) ≡ and_then r word
front_with words i word s r less is so =
    let one : i + 1 ≡ suc i = omega arith in
    ap (λ (j : ℕ). read s (take j words)) one ∙ front_suc words i word s r less is so
