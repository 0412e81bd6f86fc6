-- What the words of a line tell of it.
use Rattle.std.proofs.Common.{◌≡◌, ℕ, ◌+◌, ◌*◌, Bool, true, false, arith, List, [], ◌∷◌, get_or, length, refl, sym, ap, ◌∙◌, subst, inl, inr}
use Rattle.std.specs.Prelude.{◌==◌, if◌then◌else◌, Option, Some, None, Result, Ok, Err, IfOk, IfErr, IsNone, codes}
use Rattle.qs_script.specs.declared.line.LineFault.{LineFault}
use Rattle.qs_script.specs.declared.line.LineFault.TheVariants as fault
use Rattle.std.specs.Option.{ok_or}
use Rattle.qs_outside.specs.declared.crash.CrashChoice.{CrashChoice}
use Rattle.qs_script.specs.SessionNames.{IsSessionName}
use Rattle.qs_script.specs.Lines.{Asks, Drives, IsLineFault, IsPlace, IsQuiet, Place, ReadsLine, WordsSpell, fua_words, words_of}
use Rattle.qs_script.specs.Spelled.{SpellsActor, SpellsData, SpellsNumber, fail_word, greatest, greatest_length}
use Rattle.qs_script.specs.Verbs.{verb_word}
use Rattle.qs_script.specs.declared.actor.ScriptActor.{ScriptActor}
use Rattle.qs_script.specs.declared.line.Line.{Line}
use Rattle.qs_script.specs.declared.line.Line.TheVariants as line
use Rattle.qs_script.specs.declared.read.Verb.{Verb}
use Rattle.qs_script.specs.declared.read.Verb.TheVariants as verb
use Rattle.qs_script.proofs.Splitting.{only_word, some_word}

-- the verb is the first word
pub record Begins (words : List (List ℕ)) : Type 0 where
  pub verb_is : Verb
  pub rest : List (List ℕ)
  pub whole : words ≡ verb_word verb_is ∷ rest

begun_by : (words : List (List ℕ)) (v : Verb) (rest : List (List ℕ)) → words ≡ verb_word v ∷ rest → Begins words
begun_by words v rest whole = record { verb_is = v; rest = rest; whole = whole }

driven : (words : List (List ℕ)) (v : Verb) (who : ScriptActor) (now : ℕ) → Drives (verb_word v) words who now → Begins words
driven words v who now is = elim is.rest [
  | inl bare ↦ begun_by words v (is.who ∷ []) bare.0
  | inr timed ↦ begun_by words v (is.who ∷ timed.0 ∷ []) timed.1.0
]

asked : (words : List (List ℕ)) (v : Verb) (s : List ℕ) (c o : ℕ) (last : List ℕ) (fua : Bool) → Asks (verb_word v) words s c o last fua → Begins words
asked words v s c o last fua is = begun_by words v (s ∷ is.cookie_word ∷ is.offset_word ∷ last ∷ fua_words fua) is.whole

pub begins : (words : List (List ℕ)) (read : Line) → ((rest : List (List ℕ)) → words ≡ codes "crash" ∷ rest → ⊥) → WordsSpell words read → Begins words
begins words line.Nothing other is = absurd is
begins words (line.Session s e) other is = begun_by words verb.Session (s ∷ e ∷ []) is.0
begins words (line.End s) other is = begun_by words verb.End (s ∷ []) is.0
begins words (line.Read s c offset count) other is = asked words verb.Read s c offset is.0 false is.1.0
begins words (line.Write s c offset bytes fua) other is = asked words verb.Write s c offset is.0 fua is.1.0
begins words (line.Zero s c offset count fua) other is = asked words verb.Zero s c offset is.0 fua is.1.0
begins words (line.Trim s c offset count) other is = asked words verb.Trim s c offset is.0 false is.1.0
begins words (line.Flush s c) other is = begun_by words verb.Flush (s ∷ is.0 ∷ []) is.1.0
begins words (line.Step who now) other is = driven words verb.Step who now is
begins words (line.Run who now) other is = driven words verb.Run who now is
begins words (line.Fail stripe kind) other is = begun_by words verb.Fail (is.0 ∷ fail_word kind ∷ []) is.1.0
begins words (line.Crash choice) other is = absurd (other (is.0 ∷ is.1.0) is.1.1.0)

-- a line whose first word is no verb, nor `crash`, is out of form
pub no_verb : (first : List ℕ) (rest : List (List ℕ)) → (first ≡ codes "crash" → ⊥) → ((v : Verb) → first ≡ verb_word v → ⊥) →
    (read : Line) → WordsSpell (first ∷ rest) read → ⊥
no_verb first rest other bad read is =
    let begun = begins (first ∷ rest) read (λ others e. other (cc)) is in
    let whole = begun.whole in
    bad begun.verb_is (cc)

-- words that drive an actor
pub drives_bare : (v : Verb) (first word : List ℕ) (who : ScriptActor) → first ≡ verb_word v → SpellsActor word who →
    Drives (verb_word v) (first ∷ word ∷ []) who 0
drives_bare v first word who e is = record {
  who = word;
  actor_is = is;
  rest = inl (ap (λ (w : List ℕ). w ∷ word ∷ []) e, refl);
}

pub drives_at : (v : Verb) (first word digits : List ℕ) (who : ScriptActor) (now : ℕ) → first ≡ verb_word v → SpellsActor word who →
    SpellsNumber greatest digits now → Drives (verb_word v) (first ∷ word ∷ digits ∷ []) who now
drives_at v first word digits who now e is spells = record {
  who = word;
  actor_is = is;
  rest = inr (digits, (ap (λ (w : List ℕ). w ∷ word ∷ digits ∷ []) e, spells));
}

-- a verb isn't `crash`, by the first letter
letter : List ℕ → ℕ
letter word = get_or word 0 0

pub not_crash : (v : Verb) → verb_word v ≡ codes "crash" → ⊥
unfolding letter
not_crash verb.Session e = absurd (omega (arith, ap letter e))
not_crash verb.End e = absurd (omega (arith, ap letter e))
not_crash verb.Read e = absurd (omega (arith, ap letter e))
not_crash verb.Write e = absurd (omega (arith, ap letter e))
not_crash verb.Zero e = absurd (omega (arith, ap letter e))
not_crash verb.Trim e = absurd (omega (arith, ap letter e))
not_crash verb.Flush e = absurd (omega (arith, ap letter e))
not_crash verb.Step e = absurd (omega (arith, ap letter e))
not_crash verb.Run e = absurd (omega (arith, ap letter e))
not_crash verb.Fail e = absurd (omega (arith, ap letter e))

-- words that begin otherwise spell no crash
no_crash : {first : List ℕ} {rest : List (List ℕ)} {choice : CrashChoice} → (first ≡ codes "crash" → ⊥) →
    WordsSpell (first ∷ rest) (line.Crash choice) → ⊥
no_crash other is = let whole = is.1.1.0 in other (cc)

-- a line that isn't quiet is read by its words
pub by_words : (text : List ℕ) (read : Line) → (IsQuiet text → ⊥) → ReadsLine text read → WordsSpell (words_of text) read
by_words text line.Nothing loud is = absurd (loud is)
by_words text (line.Session s e) loud is = is
by_words text (line.End s) loud is = is
by_words text (line.Read s c offset count) loud is = is
by_words text (line.Write s c offset bytes fua) loud is = is
by_words text (line.Zero s c offset count fua) loud is = is
by_words text (line.Trim s c offset count) loud is = is
by_words text (line.Flush s c) loud is = is
by_words text (line.Step who now) loud is = is
by_words text (line.Run who now) loud is = is
by_words text (line.Fail stripe kind) loud is = is
by_words text (line.Crash choice) loud is = is

pub of_words : (text : List ℕ) (read : Line) → WordsSpell (words_of text) read → ReadsLine text read
of_words text line.Nothing is = absurd is
of_words text (line.Session s e) is = is
of_words text (line.End s) is = is
of_words text (line.Read s c offset count) is = is
of_words text (line.Write s c offset bytes fua) is = is
of_words text (line.Zero s c offset count fua) is = is
of_words text (line.Trim s c offset count) is = is
of_words text (line.Flush s c) is = is
of_words text (line.Step who now) is = is
of_words text (line.Run who now) is = is
of_words text (line.Fail stripe kind) is = is
of_words text (line.Crash choice) is = is

-- a text whose words spell no line is out of form
pub out_of : (text : List ℕ) (words : List (List ℕ)) (read : Line) → words_of text ≡ words → (IsQuiet text → ⊥) →
    (WordsSpell words read → ⊥) → ReadsLine text read → ⊥
out_of text words read e loud bad is =
    let spells : List (List ℕ) → Type 0 = λ ws. WordsSpell ws read in
    bad (subst spells e (by_words text read loud is))

not_driven : {v s cookie offset last verb_word : List ℕ} {more : List (List ℕ)} {who : ScriptActor} {now : ℕ} →
    Drives verb_word (v ∷ s ∷ cookie ∷ offset ∷ last ∷ more) who now → ⊥
not_driven is = elim is.rest [
  | inl bare ↦ let whole = bare.0 in cc
  | inr timed ↦ let whole = timed.1.0 in cc
]

-- what five words and more that are a request's tell
record Told (v : List ℕ) (s cookie offset last : List ℕ) (more : List (List ℕ)) (verb_word s' : List ℕ) (last' : List ℕ) (fua : Bool) : Type 0 where
  verb_is : v ≡ verb_word
  session_is : s' ≡ s
  last_is : last' ≡ last
  ends : more ≡ fua_words fua
  place : (place : Place) × IsPlace s cookie offset place

told : {v s cookie offset last verb_word s' last' : List ℕ} {more : List (List ℕ)} {c o : ℕ} {fua : Bool} →
    Asks verb_word (v ∷ s ∷ cookie ∷ offset ∷ last ∷ more) s' c o last' fua → Told v s cookie offset last more verb_word s' last' fua
told {s} {cookie} {offset} {s'} {c} {o} is =
    let whole = is.whole in
    let s_is : s' ≡ s = cc in
    let cookie_is : is.cookie_word ≡ cookie = cc in
    let offset_is : is.offset_word ≡ offset = cc in
    let number : ℕ → List ℕ → Type 0 = λ n word. SpellsNumber greatest word n in
    record {
      verb_is = cc;
      session_is = s_is;
      last_is = cc;
      ends = cc;
      place = ((s', c, o), (sym s_is, subst IsSessionName s_is is.place.1, subst (number c) cookie_is is.place.2, subst (number o) offset_is is.place.3));
    }

-- five words and more that spell a line are a request's
pub placed : (v : Verb) (s cookie offset last : List ℕ) (more : List (List ℕ)) (read : Line) → WordsSpell (verb_word v ∷ s ∷ cookie ∷ offset ∷ last ∷ more) read →
    (place : Place) × IsPlace s cookie offset place
placed v s cookie offset last more line.Nothing is = absurd is
placed v s cookie offset last more (line.Session a e) is = let whole = is.0 in absurd (cc)
placed v s cookie offset last more (line.End a) is = let whole = is.0 in absurd (cc)
placed v s cookie offset last more (line.Read a c o count) is = (told is.1.0).place
placed v s cookie offset last more (line.Write a c o bytes fua) is = (told is.1.0).place
placed v s cookie offset last more (line.Zero a c o count fua) is = (told is.1.0).place
placed v s cookie offset last more (line.Trim a c o count) is = (told is.1.0).place
placed v s cookie offset last more (line.Flush a c) is = let whole = is.1.0 in absurd (cc)
placed v s cookie offset last more (line.Step who now) is = absurd (not_driven is)
placed v s cookie offset last more (line.Run who now) is = absurd (not_driven is)
placed v s cookie offset last more (line.Fail stripe kind) is = let whole = is.1.0 in absurd (cc)
placed v s cookie offset last more (line.Crash choice) is = absurd (no_crash (not_crash v) is)

-- behind five words of a line stands `fua`, or nothing
pub ended : (v s cookie offset last : List ℕ) (more : List (List ℕ)) → (v ≡ codes "crash" → ⊥) → (read : Line) → WordsSpell (v ∷ s ∷ cookie ∷ offset ∷ last ∷ more) read →
    (fua : Bool) × (more ≡ fua_words fua)
ended v s cookie offset last more other line.Nothing is = absurd is
ended v s cookie offset last more other (line.Session a e) is = let whole = is.0 in absurd (cc)
ended v s cookie offset last more other (line.End a) is = let whole = is.0 in absurd (cc)
ended v s cookie offset last more other (line.Read a c o count) is = (false, (told is.1.0).ends)
ended v s cookie offset last more other (line.Write a c o bytes fua) is = (fua, (told is.1.0).ends)
ended v s cookie offset last more other (line.Zero a c o count fua) is = (fua, (told is.1.0).ends)
ended v s cookie offset last more other (line.Trim a c o count) is = (false, (told is.1.0).ends)
ended v s cookie offset last more other (line.Flush a c) is = let whole = is.1.0 in absurd (cc)
ended v s cookie offset last more other (line.Step who now) is = absurd (not_driven is)
ended v s cookie offset last more other (line.Run who now) is = absurd (not_driven is)
ended v s cookie offset last more other (line.Fail stripe kind) is = let whole = is.1.0 in absurd (cc)
ended v s cookie offset last more other (line.Crash choice) is = absurd (no_crash other is)

-- the first and the third letter of a verb tell it
verb_by : ℕ → Verb
verb_by n =
    if n == 345 then verb.Session else
    if n == 301 then verb.End else
    if n == 308 then verb.Read else
    if n == 329 then verb.Write else
    if n == 350 then verb.Zero else
    if n == 326 then verb.Trim else
    if n == 336 then verb.Flush else
    if n == 317 then verb.Step else
    if n == 334 then verb.Run else verb.Fail

sign : List ℕ → ℕ
sign word = get_or word 0 0 + 2 * get_or word 2 0

by_sign : (v : Verb) → verb_by (sign (verb_word v)) ≡ v
unfolding sign verb_by
by_sign verb.Session = refl
by_sign verb.End = refl
by_sign verb.Read = refl
by_sign verb.Write = refl
by_sign verb.Zero = refl
by_sign verb.Trim = refl
by_sign verb.Flush = refl
by_sign verb.Step = refl
by_sign verb.Run = refl
by_sign verb.Fail = refl

one_verb : (v w : Verb) → verb_word v ≡ verb_word w → v ≡ w
one_verb v w e = sym (by_sign v) ∙ ap (λ (word : List ℕ). verb_by (sign word)) e ∙ by_sign w

pub one_fua : (a b : Bool) → fua_words a ≡ fua_words b → a ≡ b
one_fua true true e = refl
one_fua true false e = absurd (omega (arith, ap length e))
one_fua false true e = absurd (omega (arith, ap length e))
one_fua false false e = refl

-- what is left of a text and isn't `fua`
pub not_fua : (left : List ℕ) → (left ≡ codes "fua" → ⊥) → (fua : Bool) → words_of left ≡ fua_words fua → ⊥
not_fua left bad true e = bad (only_word left (codes "fua") e)
not_fua left bad false e = let some = some_word left in omega (arith, some, ap length e)

-- a line that begins with `write` has data
pub written : (s cookie offset last : List ℕ) (more : List (List ℕ)) (read : Line) →
    WordsSpell (verb_word verb.Write ∷ s ∷ cookie ∷ offset ∷ last ∷ more) read → (bytes : List ℕ) × SpellsData last bytes
written s cookie offset last more line.Nothing is = absurd is
written s cookie offset last more (line.Session a b) is = let whole = is.0 in absurd (cc)
written s cookie offset last more (line.End a) is = let whole = is.0 in absurd (cc)
written s cookie offset last more (line.Read a c o count) is = absurd (cc (one_verb verb.Write verb.Read (told is.1.0).verb_is))
written s cookie offset last more (line.Write a c o bytes fua) is = (bytes, subst (λ (w : List ℕ). SpellsData w bytes) (told is.1.0).last_is is.1.1)
written s cookie offset last more (line.Zero a c o count fua) is = absurd (cc (one_verb verb.Write verb.Zero (told is.1.0).verb_is))
written s cookie offset last more (line.Trim a c o count) is = absurd (cc (one_verb verb.Write verb.Trim (told is.1.0).verb_is))
written s cookie offset last more (line.Flush a c) is = let whole = is.1.0 in absurd (cc)
written s cookie offset last more (line.Step who now) is = absurd (not_driven is)
written s cookie offset last more (line.Run who now) is = absurd (not_driven is)
written s cookie offset last more (line.Fail stripe kind) is = let whole = is.1.0 in absurd (cc)
written s cookie offset last more (line.Crash choice) is = absurd (no_crash (not_crash verb.Write) is)

-- the kinds of requests but WRITE, and which of them may have the flag FUA
pub is_sized : Verb → Bool → Bool
is_sized verb.Read false = true
is_sized verb.Zero fua = true
is_sized verb.Trim false = true
is_sized other fua = false

-- a request but a WRITE has a length
pub record Sized (v : Verb) (last : List ℕ) (fua : Bool) : Type 0 where
  pub length : ℕ
  pub spells : SpellsNumber greatest_length last length
  pub kind : is_sized v fua ≡ true

sized_as : {v : Verb} (w : Verb) {s cookie offset last s' last' : List ℕ} {c o n : ℕ} {fua fua' : Bool} → is_sized w fua' ≡ true →
    Asks (verb_word w) (verb_word v ∷ s ∷ cookie ∷ offset ∷ last ∷ fua_words fua) s' c o last' fua' → SpellsNumber greatest_length last' n → Sized v last fua
sized_as {v} w {n} {fua} {fua'} kind is spells =
    let same = one_verb v w (told is).verb_is in
    let flag = one_fua fua fua' (told is).ends in
    record {
      length = n;
      spells = subst (λ (word : List ℕ). SpellsNumber greatest_length word n) (told is).last_is spells;
      kind = rw (same, flag) kind;
    }

pub sized : (v : Verb) (s cookie offset last : List ℕ) (fua : Bool) (read : Line) → (v ≡ verb.Write → ⊥) →
    WordsSpell (verb_word v ∷ s ∷ cookie ∷ offset ∷ last ∷ fua_words fua) read → Sized v last fua
unfolding is_sized
sized v s cookie offset last fua line.Nothing other is = absurd is
sized v s cookie offset last fua (line.Session a b) other is = let whole = is.0 in absurd (cc)
sized v s cookie offset last fua (line.End a) other is = let whole = is.0 in absurd (cc)
sized v s cookie offset last fua (line.Read a c o count) other is = sized_as verb.Read refl is.1.0 is.1.1
sized v s cookie offset last fua (line.Write a c o bytes fua') other is = absurd (other (one_verb v verb.Write (told is.1.0).verb_is))
sized v s cookie offset last fua (line.Zero a c o count fua') other is = sized_as verb.Zero refl is.1.0 is.1.1
sized v s cookie offset last fua (line.Trim a c o count) other is = sized_as verb.Trim refl is.1.0 is.1.1
sized v s cookie offset last fua (line.Flush a c) other is = let whole = is.1.0 in absurd (cc)
sized v s cookie offset last fua (line.Step who now) other is = absurd (not_driven is)
sized v s cookie offset last fua (line.Run who now) other is = absurd (not_driven is)
sized v s cookie offset last fua (line.Fail stripe kind) other is = let whole = is.1.0 in absurd (cc)
sized v s cookie offset last fua (line.Crash choice) other is = absurd (no_crash (not_crash v) is)

-- what the words spell, the text spells
pub ok_of : (text : List ℕ) (words : List (List ℕ)) (result : Result Line LineFault) → words_of text ≡ words →
    IfOk result (WordsSpell words) → IfOk result (ReadsLine text)
ok_of text words (Ok read) e is =
    let spells : List (List ℕ) → Type 0 = λ ws. WordsSpell ws read in
    of_words text read (subst spells (sym e) is)
ok_of text words (Err fault) e is = tt

-- why the words aren't read, the text isn't
pub fault_of : (text : List ℕ) (words : List (List ℕ)) (result : Result Line LineFault) → words_of text ≡ words → (IsQuiet text → ⊥) →
    IfErr result (IsLineFault (WordsSpell words)) → IfErr result (IsLineFault (ReadsLine text))
fault_of text words (Ok read) e loud is = tt
fault_of text words (Err fault.OutOfForm) e loud is = λ read. out_of text words read e loud (is read)
fault_of text words (Err (fault.NoBody s c offset size fua)) e loud is =
    let write : Line = line.Write s c offset is.0 fua in
    let spells : List (List ℕ) → Type 0 = λ ws. WordsSpell ws write in
    (is.0, (of_words text write (subst spells (sym e) is.1.0), is.1.1))
fault_of text words (Err fault.NoPicks) e loud is =
    let spells : List (List ℕ) → Type 0 = λ ws. WordsSpell ws (line.Crash is.0) in
    (is.0, of_words text (line.Crash is.0) (subst spells (sym e) is.1))

-- words that spell no line are out of form
pub none_fault : (words : List (List ℕ)) (read : Option Line) → (IsNone read → (line : Line) → WordsSpell words line → ⊥) →
    IfErr (ok_or read fault.OutOfForm) (IsLineFault (WordsSpell words))
none_fault words None is = is refl
none_fault words (Some read) is = tt

-- the words of a request
pub asks_of : (v : Verb) (session cookie offset last s : List ℕ) (c o : ℕ) (fua : Bool) → IsPlace session cookie offset (s, c, o) →
    Asks (verb_word v) (verb_word v ∷ session ∷ cookie ∷ offset ∷ last ∷ fua_words fua) s c o last fua
asks_of v session cookie offset last s c o fua is =
    let session_is : session ≡ s = is.0 in
    record {
      cookie_word = cookie;
      offset_word = offset;
      whole = cc;
      place = (refl, subst IsSessionName session_is is.1, is.2, is.3);
    }
