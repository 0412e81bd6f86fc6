-- Words that are read from the left.
use Rattle.std.proofs.Common.{◌≡◌, ℕ, zero, suc, ◌+◌, ◌^◌, ◌<◌, ◌≤◌, List, [], ◌∷◌, length, take, drop, get_or, refl, sym, ap, ◌∙◌, subst, arith, lit<, true≢false}
use Rattle.std.proofs.lemmas.Fmt.{decimal_injective}
use Rattle.std.proofs.lemmas.Option.{none-some, same_Some}
use Rattle.std.specs.Prelude.{Option, Some, None, IfSome, IsNone, String, string_bytes}
use Rattle.std.specs.Global.{Global}
use Rattle.qs_script.specs.Spelled.{SpellsNumber}
use Rattle.qs_replay_words.specs.declared.words.Expected.{Expected}
use Rattle.qs_replay_words.specs.declared.words.Expected.TheVariants.{OptionWord, Blocks, BlockSize, Seed}
use Rattle.qs_replay_words.specs.declared.words.Reading.{Reading}
use Rattle.qs_replay_words.specs.declared.words.ReplayWords.{ReplayWords}
use Rattle.qs_replay_words.specs.Words.{AreRead, IsFront, ReadsWord, ReadsAt, TellsWords, nothing_read, words_of_reading}

-- a number is spelled in one way
pub one_number : (most : ℕ) (word : List ℕ) (n m : ℕ) → most < 2 ^ 64 → SpellsNumber most word n → SpellsNumber most word m → n ≡ m
one_number most word n m below one two =
    decimal_injective n m (omega (arith, one.small)) (omega (arith, two.small)) (sym one.digits ∙ two.digits)

-- a word leads to one reading at most
reads_at_one : (next : Expected) (r : Reading) (word : List ℕ) (a b : Reading) → ReadsAt next r word a → ReadsAt next r word b → a ≡ b
reads_at_one OptionWord r word a b one two = same_Some _ _ (sym one ∙ two)
reads_at_one Blocks r word a b one two =
    one.leads ∙ ap (λ (n : ℕ). record r { blocks = Some n; next = OptionWord }) (one_number 65536 word one.blocks two.blocks (lit< tt) one.spells two.spells) ∙ sym two.leads
reads_at_one BlockSize r word a b one two = same_Some _ _ (sym one ∙ two)
reads_at_one Seed r word a b one two =
    one.leads ∙ ap (λ (n : ℕ). record r { generate = Some n; next = OptionWord }) (one_number 0xffff_ffff_ffff_ffff word one.seed two.seed (lit< tt) one.spells two.spells) ∙ sym two.leads

pub reads_one : (r : Reading) (word : String Global) (a b : Reading) → ReadsWord r word a → ReadsWord r word b → a ≡ b
reads_one r word a b one two = reads_at_one r.next r (string_bytes word) a b one two

-- so do words
pub are_read_one : (r : Reading) (words : List (String Global)) (a b : Reading) → AreRead r words a → AreRead r words b → a ≡ b
unfolding AreRead
are_read_one r [] a b one two = one ∙ sym two
are_read_one r (w ∷ words) a b one two =
    are_read_one one.0 words a b one.1.1
    (subst (λ (m : Reading). AreRead m words b) (sym (reads_one r w one.0 two.0 one.1.0 two.1.0)) two.1.1)

pub tells_one : (words : List (String Global)) (a b : ReplayWords) → TellsWords words a → TellsWords words b → a ≡ b
tells_one words a b one two =
    same_Some _ _ (sym one.1.1 ∙ ap words_of_reading (are_read_one nothing_read words one.0 two.0 one.1.0 two.1.0) ∙ two.1.1)

-- the words from one on
drop_here : (words : List (String Global)) (i : ℕ) (word : String Global) → i < length words → word ≡ get_or words i word →
    drop i words ≡ word ∷ drop (suc i) words
drop_here [] i word less is = absurd (omega (arith, less))
drop_here (w ∷ words) zero word less is = ap (λ (x : String Global). x ∷ words) (sym is)
drop_here (w ∷ words) (suc i) word less is = drop_here words i word (omega (arith, less)) is

-- behind the last word
drop_all : (words : List (String Global)) (i : ℕ) → length words ≤ i → drop i words ≡ []
drop_all [] zero less = refl
drop_all [] (suc i) less = refl
drop_all (w ∷ words) zero less = absurd (omega (arith, less))
drop_all (w ∷ words) (suc i) less = drop_all words i (omega (arith, less))

-- What the words that are left lead to, read on from what was read, is what all words lead to.
pub record GoesOn (words : List (String Global)) (i : ℕ) (r : Reading) : Type 0 where
  pub forth : (a : Reading) → AreRead r (drop i words) a → AreRead nothing_read words a
  pub back : (a : Reading) → AreRead nothing_read words a → AreRead r (drop i words) a

pub goes_first : (words : List (String Global)) (r : Reading) → r ≡ nothing_read → GoesOn words 0 r
goes_first words r same = record {
  forth = λ a are. subst (λ (x : Reading). AreRead x words a) same are;
  back = λ a are. subst (λ (x : Reading). AreRead x words a) (sym same) are;
}

forth_of : (r next : Reading) (word : String Global) (words : List (String Global)) (a : Reading) → ReadsWord r word next → AreRead next words a → AreRead r (word ∷ words) a
unfolding AreRead
forth_of r next word words a reads are = (next, (reads, are))

back_of : (r next : Reading) (word : String Global) (words : List (String Global)) (a : Reading) → ReadsWord r word next → AreRead r (word ∷ words) a → AreRead next words a
unfolding AreRead
back_of r next word words a reads are = subst (λ (m : Reading). AreRead m words a) (reads_one r word are.0 next are.1.0 reads) are.1.1

none_of : (r : Reading) (word : String Global) (words : List (String Global)) (a : Reading) → ((x : Reading) → ¬ ReadsWord r word x) → ¬ AreRead r (word ∷ words) a
unfolding AreRead
none_of r word words a none are = none are.0 are.1.0

pub goes_more : (words : List (String Global)) (i : ℕ) (word : String Global) (r next : Reading) → i < length words → word ≡ get_or words i word →
    ReadsWord r word next → GoesOn words i r → GoesOn words (i + 1) next
goes_more words i word r next less is reads so =
    let here = drop_here words i word less is in
    let one : i + 1 ≡ suc i = omega arith in
    subst (λ (j : ℕ). GoesOn words j next) (sym one) (record {
      forth = λ a are. so.forth a (subst (λ (ws : List (String Global)). AreRead r ws a) (sym here) (forth_of r next word _ a reads are));
      back = λ a are. back_of r next word _ a reads (subst (λ (ws : List (String Global)). AreRead r ws a) here (so.back a are));
    })

-- a word may not stand there
pub goes_none : (words : List (String Global)) (i : ℕ) (word : String Global) (r : Reading) → i < length words → word ≡ get_or words i word →
    ((x : Reading) → ¬ ReadsWord r word x) → GoesOn words i r → (told : ReplayWords) → ¬ TellsWords words told
goes_none words i word r less is none so told tells =
    none_of r word _ tells.0 none
    (subst (λ (ws : List (String Global)). AreRead r ws tells.0) (drop_here words i word less is) (so.back tells.0 tells.1.0))

nothing_left : (r a : Reading) → AreRead r [] a → a ≡ r
unfolding AreRead
nothing_left r a are = are

none_left : (r : Reading) → AreRead r [] r
unfolding AreRead
none_left r = refl

-- all words were read
pub goes_all : (words : List (String Global)) (i : ℕ) (r : Reading) → length words ≤ i → GoesOn words i r → AreRead nothing_read words r
goes_all words i r less so =
    so.forth r (subst (λ (ws : List (String Global)). AreRead r ws r) (sym (drop_all words i less)) (none_left r))

pub goes_whole : (words : List (String Global)) (i : ℕ) (r : Reading) (told : ReplayWords) → length words ≤ i → GoesOn words i r → words_of_reading r ≡ Some told → TellsWords words told
goes_whole words i r told less so is = (r, (goes_all words i r less so, is))

-- the words tell what the last reading tells
pub whole_is : (words : List (String Global)) (i : ℕ) (r : Reading) (told : ReplayWords) → length words ≤ i → GoesOn words i r → TellsWords words told → words_of_reading r ≡ Some told
whole_is words i r told less so tells =
    ap words_of_reading (are_read_one nothing_read words r tells.0 (goes_all words i r less so) tells.1.0) ∙ tells.1.1

-- what is told behind the last word
pub some_told : (words : List (String Global)) (i : ℕ) (r : Reading) (o : Option ReplayWords) → length words ≤ i → GoesOn words i r → o ≡ words_of_reading r →
    IfSome o (λ told. TellsWords words told)
some_told words i r None less so is = tt
some_told words i r (Some told) less so is = goes_whole words i r told less so (sym is)

pub none_told : (words : List (String Global)) (i : ℕ) (r : Reading) (o : Option ReplayWords) → length words ≤ i → GoesOn words i r → o ≡ words_of_reading r →
    IsNone o → (told : ReplayWords) → ¬ TellsWords words told
none_told words i r None less so is none told tells = none-some told (is ∙ whole_is words i r told less so tells)
none_told words i r (Some told) less so is none other tells = true≢false none

-- one more word behind those that were read
front_suc : (words : List (String Global)) (i : ℕ) (word : String Global) (s r next : Reading) → i < length words → word ≡ get_or words i word →
    AreRead s (take i words) r → ReadsWord r word next → AreRead s (take (suc i) words) next
unfolding AreRead
front_suc [] i word s r next less is so reads = absurd (omega (arith, less))
front_suc (w ∷ words) zero word s r next less is so reads =
    (next, (subst (λ (x : String Global). ReadsWord s x next) is (subst (λ (x : Reading). ReadsWord x word next) so reads), refl))
front_suc (w ∷ words) (suc i) word s r next less is so reads =
    (so.0, (so.1.0, front_suc words i word so.0 r next (omega (arith, less)) is so.1.1 reads))

pub front_more : (words : List (String Global)) (i : ℕ) (word : String Global) (s r next : Reading) → i < length words → word ≡ get_or words i word →
    AreRead s (take i words) r → ReadsWord r word next → AreRead s (take (i + 1) words) next
front_more words i word s r next less is so reads =
    let one : i + 1 ≡ suc i = omega arith in
    subst (λ (j : ℕ). AreRead s (take j words) next) (sym one) (front_suc words i word s r next less is so reads)

-- what one more word was read from
front_back : (words : List (String Global)) (i : ℕ) (word : String Global) (s a : Reading) → i < length words → word ≡ get_or words i word →
    AreRead s (take (suc i) words) a → (r : Reading) × (AreRead s (take i words) r × ReadsWord r word a)
unfolding AreRead
front_back [] i word s a less is are = absurd (omega (arith, less))
front_back (w ∷ words) zero word s a less is are =
    (s, (refl, subst (λ (x : String Global). ReadsWord s x a) (sym is) (subst (λ (x : Reading). ReadsWord s w x) (sym are.1.1) are.1.0)))
front_back (w ∷ words) (suc i) word s a less is are =
    let before = front_back words i word are.0 a (omega (arith, less)) is are.1.1 in
    (before.0, ((are.0, (are.1.0, before.1.0)), before.1.1))

-- a word may not stand behind those that were read
pub front_none : (words : List (String Global)) (i : ℕ) (word : String Global) (r : Reading) → i < length words → word ≡ get_or words i word →
    AreRead nothing_read (take i words) r → ((x : Reading) → ¬ ReadsWord r word x) → ¬ IsFront (take (i + 1) words)
front_none words i word r less is so none front =
    let one : i + 1 ≡ suc i = omega arith in
    let before = front_back words i word nothing_read front.0 less is (subst (λ (j : ℕ). AreRead nothing_read (take j words) front.0) one front.1) in
    none front.0 (subst (λ (x : Reading). ReadsWord x word front.0) (are_read_one nothing_read (take i words) before.0 r before.1.0 so) before.1.1)
