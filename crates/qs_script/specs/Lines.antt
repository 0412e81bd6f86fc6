-- The grammar of a script's lines, on whole texts without their LF.
use Rattle.std.specs.Prelude.{◌≡◌, ℕ, ◌≤◌, ◌⊎◌, ◌==◌, Bool, true, false, List, [], ◌∷◌, length, codes, Option, None, Some}
use Rattle.std.specs.List.{slice_split}
use Rattle.std.specs.Borrow.{Bor}
use Rattle.qs_bytes.specs.Names.{IsName}
use Rattle.qs_outside.specs.declared.crash.CrashChoice.{CrashChoice}
use Rattle.qs_script.specs.SessionNames.{IsSessionName}
use Rattle.qs_script.specs.Spelled.{SpellsNumber, SpellsActor, SpellsData, SpellPicks, fail_word, greatest, greatest_length}
use Rattle.qs_script.specs.declared.actor.ScriptActor.{ScriptActor}
use Rattle.qs_script.specs.declared.line.Line.{Line}
use Rattle.qs_script.specs.declared.line.Line.TheVariants as line
use Rattle.qs_script.specs.declared.line.LineFault.{LineFault}
use Rattle.qs_script.specs.declared.line.LineFault.TheVariants as fault

-- the parts of a text between single spaces
abbrev pub words_of : List ℕ → List (List ℕ)
words_of text = slice_split (λ byte. byte == 32) text

-- the words behind a space, if there is one
abbrev pub words_left : Option (Bor (List ℕ)) → List (List ℕ)
words_left None = []
words_left (Some rest) = words_of rest.now

-- an empty line, or a comment
abbrev pub IsQuiet : List ℕ → Type 0
IsQuiet [] = Unit {0}
IsQuiet (first ∷ others) = first ≡ 35

-- `VERB ACTOR`, at reading 0, or `VERB ACTOR READING`
pub record Drives (verb : List ℕ) (words : List (List ℕ)) (actor : ScriptActor) (now : ℕ) : Type 0 where
  pub who : List ℕ
  pub actor_is : SpellsActor who actor
  pub rest : ((words ≡ verb ∷ who ∷ []) × (now ≡ 0))
      ⊎ ((digits : List ℕ) × ((words ≡ verb ∷ who ∷ digits ∷ []) × SpellsNumber greatest digits now))

-- a request's session, cookie and offset
abbrev pub Place : Type 0
Place = List ℕ × ℕ × ℕ

abbrev pub IsPlace : List ℕ → List ℕ → List ℕ → Place → Type 0
IsPlace session cookie offset place =
    (session ≡ place.0) × IsSessionName session × SpellsNumber greatest cookie place.1
    × SpellsNumber greatest offset place.2

-- the word `fua`, where a request has the flag FUA
abbrev pub fua_words : Bool → List (List ℕ)
fua_words true = codes "fua" ∷ []
fua_words false = []

-- `VERB S C OFFSET LAST`, and `fua` behind them where the flag is set
pub record Asks (verb : List ℕ) (words : List (List ℕ)) (s : List ℕ) (c offset : ℕ) (last : List ℕ)
    (fua : Bool) : Type 0 where
  pub cookie_word : List ℕ
  pub offset_word : List ℕ
  pub whole : words ≡ verb ∷ s ∷ cookie_word ∷ offset_word ∷ last ∷ fua_words fua
  pub place : IsPlace s cookie_word offset_word (s, c, offset)

-- such words, the last of them a length
abbrev pub AsksLength : List ℕ → List (List ℕ) → List ℕ → ℕ → ℕ → ℕ → Bool → Type 0
AsksLength verb words s c offset length fua = (last : List ℕ)
    × (Asks verb words s c offset last fua × SpellsNumber greatest_length last length)

-- the words spell the line
abbrev pub WordsSpell : List (List ℕ) → Line → Type 0
WordsSpell words line.Nothing = ⊥
WordsSpell words (line.Session s e) = (words ≡ codes "session" ∷ s ∷ e ∷ []) × IsSessionName s × (1 ≤ length e)
    × IsName e
WordsSpell words (line.End s) = (words ≡ codes "end" ∷ s ∷ []) × IsSessionName s
WordsSpell words (line.Read s c offset length) = AsksLength (codes "read") words s c offset length false
WordsSpell words (line.Write s c offset bytes fua) = (last : List ℕ)
    × (Asks (codes "write") words s c offset last fua × SpellsData last bytes)
WordsSpell words (line.Zero s c offset length fua) = AsksLength (codes "zero") words s c offset length fua
WordsSpell words (line.Trim s c offset length) = AsksLength (codes "trim") words s c offset length false
WordsSpell words (line.Flush s c) = (digits : List ℕ)
    × ((words ≡ codes "flush" ∷ s ∷ digits ∷ []) × IsSessionName s × SpellsNumber greatest digits c)
WordsSpell words (line.Step actor now) = Drives (codes "step") words actor now
WordsSpell words (line.Run actor now) = Drives (codes "run") words actor now
WordsSpell words (line.Fail stripe kind) = (digits : List ℕ)
    × ((words ≡ codes "fail" ∷ digits ∷ fail_word kind ∷ []) × SpellsNumber 7 digits stripe)
WordsSpell words (line.Crash choice) =
    (digits : List ℕ) × ((pairs : List (List ℕ))
    × ((words ≡ codes "crash" ∷ digits ∷ pairs) × SpellsNumber greatest digits choice.rest
    × SpellPicks pairs choice.picks))

-- the text spells the line
abbrev pub ReadsLine : List ℕ → Line → Type 0
ReadsLine text line.Nothing = IsQuiet text
ReadsLine text other = WordsSpell (words_of text) other

-- why a text isn't read as a line: it spells none; or a WRITE of so many bytes, or a crash, which found
-- no memory
abbrev pub IsLineFault : (Line → Type 0) → LineFault → Type 0
IsLineFault spells fault.OutOfForm = (read : Line) → ¬ spells read
IsLineFault spells (fault.NoBody s c offset size fua) = (bytes : List ℕ)
    × (spells (line.Write s c offset bytes fua) × (length bytes ≡ size))
IsLineFault spells fault.NoPicks = (choice : CrashChoice) × spells (line.Crash choice)
