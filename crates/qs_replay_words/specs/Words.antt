-- The words of the command: `[--blocks N] [--align N] [--generate N]`, the options in any order, each at most once.
use Rattle.std.specs.Prelude.{◌≡◌, ℕ, ◌≤◌, ◌⊎◌, Bool, if◌then◌else◌, List, [], ◌∷◌, codes, Option, None, Some, is_some, unwrap_or, String, string_bytes}
use Rattle.std.specs.Global.{Global}
use Rattle.std.specs.Str.{bytes_eq}
use Rattle.qs_script.specs.Spelled.{SpellsNumber, greatest}
use Rattle.qs_replay_words.specs.declared.words.Expected.{Expected}
use Rattle.qs_replay_words.specs.declared.words.Expected.TheVariants.{OptionWord, Blocks, BlockSize, Seed}
use Rattle.qs_replay_words.specs.declared.words.Reading.{Reading}
use Rattle.qs_replay_words.specs.declared.words.ReplayWords.{ReplayWords}

-- what is told where no word was read
abbrev pub nothing_read : Reading
nothing_read = record { blocks = None; align = None; generate = None; next = OptionWord }

-- an option that was told before may not stand again
abbrev pub unless : Bool → Reading → Option Reading
unless told r = if told then None else Some r

-- an option
abbrev pub with_option : Reading → List ℕ → Option Reading
with_option r word =
    if bytes_eq word (codes "--blocks") then unless (is_some r.blocks) (record r { next = Blocks })
    else if bytes_eq word (codes "--align") then unless (is_some r.align) (record r { next = BlockSize })
    else if bytes_eq word (codes "--generate") then unless (is_some r.generate) (record r { next = Seed })
    else None

-- the number behind `--blocks`, from 1 to 65,536
pub record ReadsBlocks (r : Reading) (word : List ℕ) (r' : Reading) : Type 0 where
  pub blocks : ℕ
  pub spells : SpellsNumber 65536 word blocks
  pub some : 1 ≤ blocks
  pub leads : r' ≡ record r { blocks = Some blocks; next = OptionWord }

-- the number behind `--align`
abbrev pub with_align : Reading → List ℕ → Option Reading
with_align r word =
    if bytes_eq word (codes "512") then Some (record r { align = Some 512; next = OptionWord })
    else if bytes_eq word (codes "4096") then Some (record r { align = Some 4096; next = OptionWord })
    else None

-- the number behind `--generate`, below 2^64
pub record ReadsSeed (r : Reading) (word : List ℕ) (r' : Reading) : Type 0 where
  pub seed : ℕ
  pub spells : SpellsNumber greatest word seed
  pub leads : r' ≡ record r { generate = Some seed; next = OptionWord }

abbrev pub ReadsAt : Expected → Reading → List ℕ → Reading → Type 0
ReadsAt OptionWord r word r' = with_option r word ≡ Some r'
ReadsAt Blocks r word r' = ReadsBlocks r word r'
ReadsAt BlockSize r word r' = with_align r word ≡ Some r'
ReadsAt Seed r word r' = ReadsSeed r word r'

-- one more word
abbrev pub ReadsWord : Reading → String Global → Reading → Type 0
ReadsWord r word r' = ReadsAt r.next r (string_bytes word) r'

-- words, one after the other, each of which may stand where it stands
unfoldable pub AreRead : Reading → List (String Global) → Reading → Type 0
AreRead r [] r' = r' ≡ r
AreRead r (word ∷ words) r' = (mid : Reading) × (ReadsWord r word mid × AreRead mid words r')

-- these words may begin the command
abbrev pub IsFront : List (String Global) → Type 0
IsFront words = (r : Reading) × AreRead nothing_read words r

-- the whole command: no number is missing; the image has 64 blocks of 512 bytes, but for what the options say
abbrev pub whole_by : Expected → Reading → Option ReplayWords
whole_by OptionWord r = Some (record {
  blocks = unwrap_or r.blocks 64;
  align = unwrap_or r.align 512;
  generate = r.generate;
})
whole_by other r = None

abbrev pub words_of_reading : Reading → Option ReplayWords
words_of_reading r = whole_by r.next r

-- what the words tell, where they are the command's
abbrev pub TellsWords : List (String Global) → ReplayWords → Type 0
TellsWords words told = (r : Reading) × (AreRead nothing_read words r × (words_of_reading r ≡ Some told))

-- from 1 to 65,536 blocks of 512 or 4096 bytes
pub record IsImageOf (told : ReplayWords) : Type 0 where
  pub some : 1 ≤ told.blocks
  pub few : told.blocks ≤ 65536
  pub align : (told.align ≡ 512) ⊎ (told.align ≡ 4096)
