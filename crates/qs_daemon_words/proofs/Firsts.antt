-- The word that is named bad is the first one.
use Rattle.std.proofs.Common.{◌≡◌, ℕ, ◌+◌, ◌<◌, ◌≤◌, Bool, true, false, List, [], ◌∷◌, ◌++◌, length, take, drop, ◌⊎◌, inl, inr, refl, sym, ap, subst, ◌∙◌, arith, length-append}
use Rattle.std.proofs.lemmas.Bool.{cases_lt}
use Rattle.std.proofs.lemmas.List.{append-nil, length-take-le, take-append-drop}
use Rattle.std.specs.Prelude.{if◌then◌else◌, Option, None, Some, Result, Ok, Err, String, codes, string_bytes}
use Rattle.std.specs.Str.{bytes_eq}
use Rattle.std.specs.Global.{Global}
use Rattle.qs_qmp_arguments.specs.Problems.{Problem}
use Rattle.qs_daemon_words.specs.declared.reading.DaemonOption.{DaemonOption}
use Rattle.qs_daemon_words.specs.declared.reading.ToldOptions.{ToldOptions}
use Rattle.qs_daemon_words.specs.declared.told.DaemonWords.{DaemonWords}
use Rattle.qs_daemon_words.specs.declared.told.ImageFile.{ImageFile}
use Rattle.qs_daemon_words.specs.declared.told.WordFault.{WordFault}
use Rattle.qs_daemon_words.specs.declared.told.WordFault.TheVariants.{Help, Version, Bad, Memory}
use Rattle.qs_daemon_words.specs.Laws.{NamesFirst}
use Rattle.qs_daemon_words.specs.Words.{about, all_options, daemon_by, has_told, may_stand, next, nothing_told, one_option, option_named, or_bad, unless_about, whole, whole_by, with_value}

abbrev Words : Type 0
Words = List (String Global)

-- ---- faults

abbrev fault_in : {A : Type 0} → Result A WordFault → WordFault
fault_in (Ok x) = Memory
fault_in (Err fault) = fault

abbrev number_in : WordFault → ℕ
number_in (Bad n) = n
number_in fault = 0

same_number : {A : Type 0} (n m : ℕ) → ◌≡◌ {A = Result A WordFault} (Err (Bad n)) (Err (Bad m)) → n ≡ m
same_number n m e = ap (λ r. number_in (fault_in r)) e

-- a step that gave a fault: the first one did, or the second
data Steps {A B : Type 0} (r : Result A WordFault) (step : A → Result B WordFault) (fault : WordFault) : Type 0 where
  First : r ≡ Err fault → Steps r step fault
  Second : (x : A) → r ≡ Ok x → step x ≡ Err fault → Steps r step fault

steps : {A B : Type 0} (r : Result A WordFault) (step : A → Result B WordFault) (fault : WordFault) → next r step ≡ Err fault → Steps r step fault
steps (Ok x) step fault e = Second x refl e
steps (Err f) step fault e = First (ap (λ r. Err (fault_in r)) e)

-- ---- the least number

stand_at : (at : ℕ) (told : ToldOptions) (o : Option DaemonOption) (n : ℕ) → may_stand at told o ≡ Err (Bad n) → at ≡ n
stand_at at told None n e = same_number at n e
stand_at at told (Some option) n e = by (has_told told option) e
  where
    by : (b : Bool) → (if b then Err (Bad at) else Ok option) ≡ Err (Bad n) → at ≡ n
    by true e = same_number at n e
    by false e = absurd cc

bad_at : (at : ℕ) (r : Result ToldOptions Problem) (n : ℕ) → or_bad at r ≡ Err (Bad n) → at ≡ n
bad_at at (Ok told) n e = absurd cc
bad_at at (Err problem) n e = same_number at n e

one_at : (at : ℕ) (told : ToldOptions) (name : String Global) (words : Words) (n : ℕ) → one_option at told (name ∷ words) ≡ Err (Bad n) → at ≤ n
one_at at told name [] n e = by (steps (may_stand at told (option_named (string_bytes name))) _ (Bad n) e)
  where
    by : Steps {B = ToldOptions} (may_stand at told (option_named (string_bytes name))) (λ option. Err (Bad (at + 1))) (Bad n) → at ≤ n
    by (First s) = let h = stand_at at told _ n s in omega (arith, h)
    by (Second option s t) = let h = same_number (at + 1) n t in omega (arith, h)
one_at at told name (value ∷ words) n e = by (steps (may_stand at told (option_named (string_bytes name))) _ (Bad n) e)
  where
    by : Steps {B = ToldOptions} (may_stand at told (option_named (string_bytes name)))
        (λ option. or_bad (at + 1) (with_value (at + 1) option told (string_bytes value))) (Bad n) → at ≤ n
    by (First s) = let h = stand_at at told _ n s in omega (arith, h)
    by (Second option s t) = let h = bad_at (at + 1) _ n t in omega (arith, h)

all_at : (at : ℕ) (told : ToldOptions) (words : Words) (n : ℕ) → all_options at told words ≡ Err (Bad n) → at ≤ n
unfolding all_options
all_at at told [] n e = absurd cc
all_at at told (name ∷ []) n e = one_at at told name [] n e
all_at at told (name ∷ value ∷ words) n e =
    by (steps (one_option at told (name ∷ value ∷ [])) _ (Bad n) e) (λ more. all_at (at + 2) more words n)
  where
    by : Steps (one_option at told (name ∷ value ∷ [])) (λ more. all_options (at + 2) more words) (Bad n) →
        ((more : ToldOptions) → all_options (at + 2) more words ≡ Err (Bad n) → at + 2 ≤ n) → at ≤ n
    by (First s) least = one_at at told name (value ∷ []) n s
    by (Second more s t) least = let h = least more t in omega (arith, h)

-- ---- the greatest number

one_within : (at : ℕ) (told : ToldOptions) (name : String Global) (words : Words) (n : ℕ) → one_option at told (name ∷ words) ≡ Err (Bad n) → n ≤ at + 1
one_within at told name [] n e = by (steps (may_stand at told (option_named (string_bytes name))) _ (Bad n) e)
  where
    by : Steps {B = ToldOptions} (may_stand at told (option_named (string_bytes name))) (λ option. Err (Bad (at + 1))) (Bad n) → n ≤ at + 1
    by (First s) = let h = stand_at at told _ n s in omega (arith, h)
    by (Second option s t) = let h = same_number (at + 1) n t in omega (arith, h)
one_within at told name (value ∷ words) n e = by (steps (may_stand at told (option_named (string_bytes name))) _ (Bad n) e)
  where
    by : Steps {B = ToldOptions} (may_stand at told (option_named (string_bytes name)))
        (λ option. or_bad (at + 1) (with_value (at + 1) option told (string_bytes value))) (Bad n) → n ≤ at + 1
    by (First s) = let h = stand_at at told _ n s in omega (arith, h)
    by (Second option s t) = let h = bad_at (at + 1) _ n t in omega (arith, h)

all_within : (at : ℕ) (told : ToldOptions) (words : Words) (n : ℕ) → all_options at told words ≡ Err (Bad n) → n ≤ at + length words
unfolding all_options
all_within at told [] n e = absurd cc
all_within at told (name ∷ []) n e = one_within at told name [] n e
all_within at told (name ∷ value ∷ words) n e =
    by (steps (one_option at told (name ∷ value ∷ [])) _ (Bad n) e) (λ more. all_within (at + 2) more words n)
  where
    by : Steps (one_option at told (name ∷ value ∷ [])) (λ more. all_options (at + 2) more words) (Bad n) →
        ((more : ToldOptions) → all_options (at + 2) more words ≡ Err (Bad n) → n ≤ at + 2 + length words) → n ≤ at + length (name ∷ value ∷ words)
    by (First s) most = let h = one_within at told name (value ∷ []) n s in omega (arith, h)
    by (Second more s t) most = let h = most more t in omega (arith, h)

-- ---- what stands behind

-- the first word is bad whatever stands behind it
stand_bad : (at : ℕ) (told : ToldOptions) (name : String Global) (words : Words) → one_option at told (name ∷ words) ≡ Err (Bad at) →
    may_stand at told (option_named (string_bytes name)) ≡ Err (Bad at)
stand_bad at told name [] e = by (steps (may_stand at told (option_named (string_bytes name))) _ (Bad at) e)
  where
    by : Steps {B = ToldOptions} (may_stand at told (option_named (string_bytes name))) (λ option. Err (Bad (at + 1))) (Bad at) →
        may_stand at told (option_named (string_bytes name)) ≡ Err (Bad at)
    by (First s) = s
    by (Second option s t) = let h = same_number (at + 1) at t in absurd (omega (arith, h))
stand_bad at told name (value ∷ words) e = by (steps (may_stand at told (option_named (string_bytes name))) _ (Bad at) e)
  where
    by : Steps {B = ToldOptions} (may_stand at told (option_named (string_bytes name)))
        (λ option. or_bad (at + 1) (with_value (at + 1) option told (string_bytes value))) (Bad at) →
        may_stand at told (option_named (string_bytes name)) ≡ Err (Bad at)
    by (First s) = s
    by (Second option s t) = let h = bad_at (at + 1) _ at t in absurd (omega (arith, h))

bad_stand : (at : ℕ) (told : ToldOptions) (name : String Global) (words : Words) →
    may_stand at told (option_named (string_bytes name)) ≡ Err (Bad at) → one_option at told (name ∷ words) ≡ Err (Bad at)
bad_stand at told name [] e = ap (λ (r : Result DaemonOption WordFault). next r (λ option. Err (Bad (at + 1)))) e
bad_stand at told name (value ∷ words) e =
    ap (λ (r : Result DaemonOption WordFault). next r (λ option. or_bad (at + 1) (with_value (at + 1) option told (string_bytes value)))) e

all_first : (at : ℕ) (told : ToldOptions) (name : String Global) (words : Words) → all_options at told (name ∷ words) ≡ Err (Bad at) →
    may_stand at told (option_named (string_bytes name)) ≡ Err (Bad at)
unfolding all_options
all_first at told name [] e = stand_bad at told name [] e
all_first at told name (value ∷ words) e = by (steps (one_option at told (name ∷ value ∷ [])) _ (Bad at) e)
  where
    by : Steps (one_option at told (name ∷ value ∷ [])) (λ more. all_options (at + 2) more words) (Bad at) →
        may_stand at told (option_named (string_bytes name)) ≡ Err (Bad at)
    by (First s) = stand_bad at told name (value ∷ []) s
    by (Second more s t) = let h = all_at (at + 2) more words at t in absurd (omega (arith, h))

first_all : (at : ℕ) (told : ToldOptions) (name : String Global) (words : Words) →
    may_stand at told (option_named (string_bytes name)) ≡ Err (Bad at) → all_options at told (name ∷ words) ≡ Err (Bad at)
unfolding all_options
first_all at told name [] e = bad_stand at told name [] e
first_all at told name (value ∷ words) e =
    ap (λ (r : Result ToldOptions WordFault). next r (λ more. all_options (at + 2) more words)) (bad_stand at told name (value ∷ []) e)

one_word : (at : ℕ) (told : ToldOptions) (name : String Global) (behind other : Words) (n : ℕ) → at ≡ n →
    all_options at told (name ∷ behind) ≡ Err (Bad n) → all_options at told (name ∷ other) ≡ Err (Bad n)
one_word at told name behind other n same e =
    subst (λ (m : ℕ). all_options at told (name ∷ other) ≡ Err (Bad m)) same
    (first_all at told name other (all_first at told name behind (subst (λ (m : ℕ). all_options at told (name ∷ behind) ≡ Err (Bad m)) (sym same) e)))

all_alone : (at : ℕ) (told : ToldOptions) (front behind other : Words) (n : ℕ) → n < at + length front →
    all_options at told (front ++ behind) ≡ Err (Bad n) → all_options at told (front ++ other) ≡ Err (Bad n)
unfolding all_options
all_alone at told [] behind other n less e = let h = all_at at told behind n e in absurd (omega (arith, h, less))
all_alone at told (name ∷ []) behind other n less e =
    let h = all_at at told (name ∷ behind) n e in
    one_word at told name behind other n (omega (arith, h, less)) e
all_alone at told (name ∷ value ∷ front) behind other n less e =
    by (one_option at told (name ∷ value ∷ [])) e (λ more. all_alone (at + 2) more front behind other n (omega (arith, less)))
  where
    by : (r : Result ToldOptions WordFault) → next r (λ more. all_options (at + 2) more (front ++ behind)) ≡ Err (Bad n) →
        ((more : ToldOptions) → all_options (at + 2) more (front ++ behind) ≡ Err (Bad n) → all_options (at + 2) more (front ++ other) ≡ Err (Bad n)) →
        next r (λ more. all_options (at + 2) more (front ++ other)) ≡ Err (Bad n)
    by (Ok more) e again = again more e
    by (Err fault) e again = e

-- ---- all words

-- a bad word is no question for what the program tells of itself
split_about : (words : Words) (r : Result DaemonWords WordFault) (n : ℕ) → unless_about (about words) r ≡ Err (Bad n) → (about words ≡ None) × (r ≡ Err (Bad n))
split_about [] r n e = (refl, e)
split_about (word ∷ []) r n e = by (bytes_eq (string_bytes word) (codes "--help")) (bytes_eq (string_bytes word) (codes "--version")) e
  where
    by : (b c : Bool) → unless_about (if b then Some Help else if c then Some Version else None) r ≡ Err (Bad n) →
        ((if b then Some Help else if c then Some Version else None) ≡ None) × (r ≡ Err (Bad n))
    by true c e = absurd cc
    by false true e = absurd cc
    by false false e = (refl, e)
split_about (word ∷ other ∷ words) r n e = (refl, e)

-- words that have a bad one: an option has it, or all are there but the image
data Names (words : Words) (n : ℕ) : Type 0 where
  InOption : all_options 0 nothing_told words ≡ Err (Bad n) → Names words n
  NoImage : n ≡ length words → Names words n

no_image : (count : ℕ) (told : ToldOptions) (o : Option ImageFile) (n : ℕ) → whole_by count told o ≡ Err (Bad n) → n ≡ count
no_image count told None n e = sym (same_number count n e)
no_image count told (Some image) n e = absurd cc

names : (words : Words) (n : ℕ) → daemon_by words ≡ Err (Bad n) → (about words ≡ None) × Names words n
names words n e =
    let split = split_about words _ n e in
    (split.0, by (steps (all_options 0 nothing_told words) (whole (length words)) (Bad n) split.1))
  where
    by : Steps (all_options 0 nothing_told words) (whole (length words)) (Bad n) → Names words n
    by (First s) = InOption s
    by (Second told s t) = NoImage (no_image (length words) told told.image n t)

among : (words : Words) (n : ℕ) → daemon_by words ≡ Err (Bad n) → n ≤ length words
among words n e = by (names words n e).1
  where
    by : Names words n → n ≤ length words
    by (InOption s) = let h = all_within 0 nothing_told words n s in omega (arith, h)
    by (NoImage same) = omega (arith, same)

alone : (front behind other : Words) (n : ℕ) → n < length front → daemon_by (front ++ behind) ≡ Err (Bad n) → about (front ++ other) ≡ None →
    daemon_by (front ++ other) ≡ Err (Bad n)
alone front behind other n less e none = by (names (front ++ behind) n e).1
  where
    by : Names (front ++ behind) n → daemon_by (front ++ other) ≡ Err (Bad n)
    by (InOption s) =
        ap (λ (o : Option WordFault). unless_about o (next (all_options 0 nothing_told (front ++ other)) (whole (length (front ++ other))))) none
        ∙ ap (λ (r : Result ToldOptions WordFault). next r (whole (length (front ++ other)))) (all_alone 0 nothing_told front behind other n (omega (arith, less)) s)
    by (NoImage same) = let long = length-append front behind in absurd (omega (arith, same, less, long))

before : (words : Words) (n m : ℕ) → daemon_by words ≡ Err (Bad n) → daemon_by (take n words) ≡ Err (Bad m) → m ≡ n
before words n m e f =
    let whole_front = length-take-le n words (among words n e) in
    let most = among (take n words) m f in
    by (cases_lt m n) whole_front most
  where
    by : (m < n) ⊎ (n ≤ m) → length (take n words) ≡ n → m ≤ length (take n words) → m ≡ n
    by (inl less) long most =
        let none = subst (λ (ws : Words). about ws ≡ None) (sym (take-append-drop n words)) (names words n e).0 in
        let same = alone (take n words) [] (drop n words) m (omega (arith, less, long))
        (subst (λ (ws : Words). daemon_by ws ≡ Err (Bad m)) (sym (append-nil (take n words))) f) none in
        same_number m n (sym (subst (λ (ws : Words). daemon_by ws ≡ Err (Bad m)) (take-append-drop n words) same) ∙ e)
    by (inr least) long most = omega (arith, least, long, most)

pub names_first : NamesFirst
names_first = record { among = among; alone = alone; before = before }
