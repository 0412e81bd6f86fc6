-- The words of the command: `[--transmission] [--read-only] [--align N] IMAGE`, the options in any order, each at
-- most once.
use Rattle.std.specs.Prelude.{◌≡◌, ℕ, suc, Bool, true, false, if◌then◌else◌, List, [], ◌∷◌, length, nat_eq, codes, Option, None, Some, is_some, option_and_then, unwrap_or, String, string_bytes}
use Rattle.std.specs.Global.{Global}
use Rattle.std.specs.List.{starts_with}
use Rattle.std.specs.Str.{bytes_eq}
use Rattle.qs_stdio_words.specs.declared.words.Expected.{Expected}
use Rattle.qs_stdio_words.specs.declared.words.Expected.TheVariants.{OptionOrImage, BlockSize, Nothing}
use Rattle.qs_stdio_words.specs.declared.words.Reading.{Reading}
use Rattle.qs_stdio_words.specs.declared.words.StdioWords.{StdioWords}

-- what is told where no word was read
abbrev pub nothing_read : Reading
nothing_read = record { align = None; read_only = false; transmission = false; next = OptionOrImage }

-- an option that was told before may not stand again
abbrev pub unless : Bool → Reading → Option Reading
unless told r = if told then None else Some r

-- an option, or the image, which doesn't begin with `--`
abbrev pub with_word : Reading → List ℕ → Option Reading
with_word r word =
    if bytes_eq word (codes "--transmission") then unless r.transmission (record r { transmission = true })
    else if bytes_eq word (codes "--read-only") then unless r.read_only (record r { read_only = true })
    else if bytes_eq word (codes "--align") then unless (is_some r.align) (record r { next = BlockSize })
    else unless (starts_with nat_eq word (codes "--")) (record r { next = Nothing })

-- the number behind `--align`
abbrev pub with_align : Reading → List ℕ → Option Reading
with_align r word =
    if bytes_eq word (codes "512") then Some (record r { align = Some 512; next = OptionOrImage })
    else if bytes_eq word (codes "4096") then Some (record r { align = Some 4096; next = OptionOrImage })
    else None

abbrev pub take_in : Expected → Reading → List ℕ → Option Reading
take_in OptionOrImage r word = with_word r word
take_in BlockSize r word = with_align r word
take_in Nothing r word = None

-- one more word
abbrev pub and_then : Reading → String Global → Option Reading
and_then r word = take_in r.next r (string_bytes word)

-- the words from the left, as long as each may stand where it stands
unfoldable pub read : Reading → List (String Global) → Option Reading
read r [] = Some r
read r (word ∷ words) = option_and_then (λ next. read next words) (and_then r word)

-- these words may begin the command
abbrev pub IsFront : List (String Global) → Type 0
IsFront words = (r : Reading) × (read nothing_read words ≡ Some r)

-- the whole command, in so many words: the last is the image
abbrev pub whole_by : Expected → ℕ → Reading → Option StdioWords
whole_by Nothing (suc n) r = Some (record {
  image = n;
  align = unwrap_or r.align 512;
  read_only = r.read_only;
  transmission = r.transmission;
})
whole_by other count r = None

abbrev pub words_of_reading : ℕ → Reading → Option StdioWords
words_of_reading count r = whole_by r.next count r

-- what the words tell, where they are the command's
abbrev pub command : List (String Global) → Option StdioWords
command words = option_and_then (words_of_reading (length words)) (read nothing_read words)
