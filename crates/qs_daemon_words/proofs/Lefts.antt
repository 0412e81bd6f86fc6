-- Options that are read from the left.
use Rattle.std.proofs.Common.{◌≡◌, ℕ, ◌+◌, ◌<◌, ◌≤◌, List, [], ◌∷◌, length, drop, get_or, sym, ap, subst, ◌∙◌, arith, length-drop}
use Rattle.std.proofs.lemmas.List.{drop-drop, drop_more, at_drop_all}
use Rattle.std.specs.Prelude.{Option, None, Result, Ok, Err, IsErrAnd, String, string_bytes}
use Rattle.std.specs.Global.{Global}
use Rattle.qs_daemon_words.specs.declared.reading.DaemonOption.{DaemonOption}
use Rattle.qs_daemon_words.specs.declared.reading.ToldOptions.{ToldOptions}
use Rattle.qs_daemon_words.specs.declared.told.DaemonWords.{DaemonWords}
use Rattle.qs_daemon_words.specs.declared.told.WordFault.{WordFault}
use Rattle.qs_daemon_words.specs.declared.told.WordFault.TheVariants.{Help, Version, Bad, Memory}
use Rattle.qs_daemon_words.specs.Words.{Tells, about, all_options, daemon_by, may_stand, next, nothing_told, one_option, option_named, or_bad, unless_about, whole, with_value}

abbrev Words : Type 0
Words = List (String Global)

no_value : (r : Result DaemonOption WordFault) (at : ℕ) (more : ToldOptions) → next r (λ option. Err (Bad at)) ≡ Ok more → ⊥
no_value (Ok option) at more e = absurd cc
no_value (Err fault) at more e = absurd cc

-- an option and its value were read
step_on : (words : Words) (at : ℕ) (told more : ToldOptions) → 0 < length words → one_option at told words ≡ Ok more →
    all_options at told words ≡ all_options (at + 2) more (drop 2 words)
unfolding all_options
step_on [] at told more some e = absurd (omega (arith, some))
step_on (name ∷ []) at told more some e = absurd (no_value (may_stand at told (option_named (string_bytes name))) (at + 1) more e)
step_on (name ∷ value ∷ words) at told more some e =
    ap (λ (r : Result ToldOptions WordFault). next r (λ more. all_options (at + 2) more words)) e

pub goes_on : (words : Words) (at : ℕ) (told more : ToldOptions) (all : Result ToldOptions WordFault) → at < length words →
    one_option at told (drop at words) ≡ Ok more → all_options at told (drop at words) ≡ all → all_options (at + 2) more (drop (at + 2) words) ≡ all
goes_on words at told more all less e so =
    let long = length-drop at words in
    ap (λ (ws : Words). all_options (at + 2) more ws) (sym (drop-drop 2 at words))
    ∙ sym (step_on (drop at words) at told more (omega (arith, less, long)) e) ∙ so

-- a fault
step_fault : (words : Words) (at : ℕ) (told : ToldOptions) (fault : WordFault) → one_option at told words ≡ Err fault → all_options at told words ≡ Err fault
unfolding all_options
step_fault [] at told fault e = absurd cc
step_fault (name ∷ []) at told fault e = e
step_fault (name ∷ value ∷ words) at told fault e =
    ap (λ (r : Result ToldOptions WordFault). next r (λ more. all_options (at + 2) more words)) e

all_by : (words : Words) (r : Result ToldOptions WordFault) → about words ≡ None → all_options 0 nothing_told words ≡ r →
    daemon_by words ≡ next r (whole (length words))
all_by words r none e =
    ap (λ (o : Option WordFault). unless_about o (next (all_options 0 nothing_told words) (whole (length words)))) none
    ∙ ap (λ (r : Result ToldOptions WordFault). next r (whole (length words))) e

fault_by : (words : Words) (at : ℕ) (told : ToldOptions) (fault : WordFault) → about words ≡ None → one_option at told (drop at words) ≡ Err fault →
    all_options at told (drop at words) ≡ all_options 0 nothing_told words → daemon_by words ≡ Err fault
fault_by words at told fault none e so = all_by words (Err fault) none (sym so ∙ step_fault (drop at words) at told fault e)

pub tells_fault : (words : Words) (at : ℕ) (told : ToldOptions) (fault : WordFault) → about words ≡ None →
    Tells (Err fault) (one_option at told (drop at words)) →
    all_options at told (drop at words) ≡ all_options 0 nothing_told words → Tells (Err fault) (daemon_by words)
tells_fault words at told Help none e so = fault_by words at told Help none e so
tells_fault words at told Version none e so = fault_by words at told Version none e so
tells_fault words at told (Bad n) none e so = fault_by words at told (Bad n) none e so
tells_fault words at told Memory none e so = tt

-- all options were read
pub tells_whole : (words : Words) (at : ℕ) (told : ToldOptions) (result : Result DaemonWords WordFault) → length words ≤ at → about words ≡ None →
    all_options at told (drop at words) ≡ all_options 0 nothing_told words → Tells result (whole (length words) told) → Tells result (daemon_by words)
unfolding all_options
tells_whole words at told result most none so is =
    subst (λ (r : Result DaemonWords WordFault). Tells result r)
    (sym (all_by words (Ok told) none (sym so ∙ at_drop_all (λ (ws : Words). all_options at told ws) words at most))) is

-- the option at this word may not stand there
bad_name : (at : ℕ) (told : ToldOptions) (name : String Global) (words : Words) (fault : WordFault) →
    may_stand at told (option_named (string_bytes name)) ≡ Err fault → one_option at told (name ∷ words) ≡ Err fault
bad_name at told name [] fault e = ap (λ (r : Result DaemonOption WordFault). next r (λ option. Err (Bad (at + 1)))) e
bad_name at told name (value ∷ words) fault e =
    ap (λ (r : Result DaemonOption WordFault). next r (λ option. or_bad (at + 1) (with_value (at + 1) option told (string_bytes value)))) e

tells_name : (at : ℕ) (told : ToldOptions) (name : String Global) (words : Words) (fault : WordFault) →
    Tells (Err fault) (may_stand at told (option_named (string_bytes name))) → Tells (Err fault) (one_option at told (name ∷ words))
tells_name at told name words Help e = bad_name at told name words Help e
tells_name at told name words Version e = bad_name at told name words Version e
tells_name at told name words (Bad n) e = bad_name at told name words (Bad n) e
tells_name at told name words Memory e = tt

pub tells_bad_option : (words : Words) (at : ℕ) (told : ToldOptions) (name : String Global) (text : List ℕ) (fault : WordFault) → at < length words →
    name ≡ get_or words at name → text ≡ string_bytes name → Tells (Err fault) (may_stand at told (option_named text)) →
    Tells (Err fault) (one_option at told (drop at words))
tells_bad_option words at told name text fault less is spelled e =
    subst (λ (ws : Words). Tells (Err fault) (one_option at told ws))
    (ap (λ (x : String Global). x ∷ drop (at + 1) words) is ∙ sym (drop_more words at name less))
    (tells_name at told name (drop (at + 1) words) fault (subst (λ (t : List ℕ). Tells (Err fault) (may_stand at told (option_named t))) spelled e))

-- a fault that is handed on is the same
pub handed_on : {A : Type 0} (result : Result A WordFault) (fault : WordFault) (told : Result A WordFault) →
    IsErrAnd result (λ e. e ≡ fault) → Tells (Err fault) told → Tells result told
handed_on (Ok more) fault told is e = absurd is
handed_on (Err other) fault told is e = subst (λ (f : WordFault). Tells (Err f) told) (sym is) e
