-- What the words of the daemon tell: options from the left, each with its value in the word behind it.
use Rattle.std.specs.Prelude.{ℕ, ◌+◌, Bool, true, false, if◌then◌else◌, ◌≡◌, List, [], ◌∷◌, ◌++◌, length, codes, Option, Some, None, is_some, unwrap_or, Result, Ok, Err, String, string_bytes}
use Rattle.std.specs.Global.{Global}
use Rattle.std.specs.Str.{bytes_eq}
use Rattle.qs_qmp_arguments.specs.declared.command_name.CommandName.{CommandName}
use Rattle.qs_qmp_arguments.specs.declared.command_name.CommandName.TheVariants.{BlockdevAdd, ObjectAdd, BlockExportAdd}
use Rattle.qs_qmp_arguments.specs.Problems.{Problem, ◌>>=◌}
use Rattle.qs_daemon_words.specs.declared.reading.DaemonOption.{DaemonOption}
use Rattle.qs_daemon_words.specs.declared.reading.DaemonOption.TheVariants as options
use Rattle.qs_daemon_words.specs.declared.reading.ToldOptions.{ToldOptions}
use Rattle.qs_daemon_words.specs.declared.told.DaemonWords.{DaemonWords}
use Rattle.qs_daemon_words.specs.declared.told.ImageFile.{ImageFile}
use Rattle.qs_daemon_words.specs.declared.told.WordFault.{WordFault}
use Rattle.qs_daemon_words.specs.declared.told.WordFault.TheVariants.{Help, Version, Bad, Memory}
use Rattle.qs_daemon_words.specs.Values.{chardev_in, command_in, image_in, listen_in, monitor_in, workers_in}

-- the options by their names
abbrev pub option_named : List ℕ → Option DaemonOption
option_named word =
    if bytes_eq word (codes "--blockdev") then Some options.Blockdev
    else if bytes_eq word (codes "--object") then Some options.Object
    else if bytes_eq word (codes "--export") then Some options.Export
    else if bytes_eq word (codes "--nbd-server") then Some options.NbdServer
    else if bytes_eq word (codes "--chardev") then Some options.Chardev
    else if bytes_eq word (codes "--monitor") then Some options.Monitor
    else if bytes_eq word (codes "--workers") then Some options.Workers
    else None

-- what is told where no option was read
abbrev pub nothing_told : ToldOptions
nothing_told = record { image = None; listen = None; chardev = None; monitor = false; workers = None; commands = [] }

-- an option that stands at most once, and stood already
abbrev pub has_told : ToldOptions → DaemonOption → Bool
has_told told options.NbdServer = is_some told.listen
has_told told options.Chardev = is_some told.chardev
has_told told options.Monitor = told.monitor
has_told told options.Workers = is_some told.workers
has_told told options.Blockdev = false
has_told told options.Object = false
has_told told options.Export = false

-- the option may stand in the word of this number
abbrev pub may_stand : ℕ → ToldOptions → Option DaemonOption → Result DaemonOption WordFault
may_stand at told None = Err (Bad at)
may_stand at told (Some option) = if has_told told option then Err (Bad at) else Ok option

-- ---- an option's value, which is the word of this number

unfoldable pub with_image : ToldOptions → List ℕ → Result ToldOptions Problem
with_image told word = do
  image ← image_in word
  Ok (record told { image = Some image })

unfoldable pub with_command : ℕ → CommandName → List ℕ → ToldOptions → List ℕ → Result ToldOptions Problem
with_command at name implied told word = do
  command ← command_in name implied word
  Ok (record told { commands = told.commands ++ record { word = at; command = command } ∷ [] })

-- the first `--blockdev` is the image file, each other one a node over another
abbrev pub with_blockdev : ℕ → ToldOptions → List ℕ → Result ToldOptions Problem
with_blockdev at told word =
    if is_some told.image then with_command at BlockdevAdd (codes "driver") told word else with_image told word

unfoldable pub with_listen : ToldOptions → List ℕ → Result ToldOptions Problem
with_listen told word = do
  listen ← listen_in word
  Ok (record told { listen = Some listen })

unfoldable pub with_chardev : ToldOptions → List ℕ → Result ToldOptions Problem
with_chardev told word = do
  id ← chardev_in word
  Ok (record told { chardev = Some id })

unfoldable pub with_monitor : ToldOptions → List ℕ → Result ToldOptions Problem
with_monitor told word = do
  _ ← monitor_in told.chardev word
  Ok (record told { monitor = true })

unfoldable pub with_workers : ToldOptions → List ℕ → Result ToldOptions Problem
with_workers told word = do
  workers ← workers_in word
  Ok (record told { workers = Some workers })

abbrev pub with_value : ℕ → DaemonOption → ToldOptions → List ℕ → Result ToldOptions Problem
with_value at options.Blockdev told word = with_blockdev at told word
with_value at options.Object told word = with_command at ObjectAdd (codes "qom-type") told word
with_value at options.Export told word = with_command at BlockExportAdd (codes "type") told word
with_value at options.NbdServer told word = with_listen told word
with_value at options.Chardev told word = with_chardev told word
with_value at options.Monitor told word = with_monitor told word
with_value at options.Workers told word = with_workers told word

-- a value that is refused is a bad word
abbrev pub or_bad : ℕ → Result ToldOptions Problem → Result ToldOptions WordFault
or_bad at (Ok told) = Ok told
or_bad at (Err problem) = Err (Bad at)

-- ---- all words

-- the next step, where this one went well
abbrev pub next : {A B : Type 0} → Result A WordFault → (A → Result B WordFault) → Result B WordFault
next (Ok x) step = step x
next (Err fault) step = Err fault

-- an option and its value, the first two of these words; the first is the word of this number
abbrev pub one_option : ℕ → ToldOptions → List (String Global) → Result ToldOptions WordFault
one_option at told [] = Ok told
one_option at told (name ∷ []) =
    next (may_stand at told (option_named (string_bytes name))) (λ option. Err (Bad (at + 1)))
one_option at told (name ∷ value ∷ words) =
    next (may_stand at told (option_named (string_bytes name))) (λ option.
    or_bad (at + 1) (with_value (at + 1) option told (string_bytes value)))

-- the options of words, the first of which is the word of this number
unfoldable pub all_options : ℕ → ToldOptions → List (String Global) → Result ToldOptions WordFault
all_options at told [] = Ok told
all_options at told (name ∷ []) = one_option at told (name ∷ [])
all_options at told (name ∷ value ∷ words) =
    next (one_option at told (name ∷ value ∷ [])) (λ more. all_options (at + 2) more words)

-- four workers where nothing else is told; without an image a word is missing behind the last
abbrev pub whole_by : ℕ → ToldOptions → Option ImageFile → Result DaemonWords WordFault
whole_by count told None = Err (Bad count)
whole_by count told (Some image) = Ok (record {
  image = image;
  listen = told.listen;
  monitor = told.monitor;
  workers = unwrap_or told.workers 4;
  commands = told.commands;
})

abbrev pub whole : ℕ → ToldOptions → Result DaemonWords WordFault
whole count told = whole_by count told told.image

-- `--help` or `--version` as the only word
abbrev pub about_word : List ℕ → Option WordFault
about_word word =
    if bytes_eq word (codes "--help") then Some Help
    else if bytes_eq word (codes "--version") then Some Version
    else None

abbrev pub about : List (String Global) → Option WordFault
about [] = None
about (word ∷ []) = about_word (string_bytes word)
about (word ∷ other ∷ words) = None

abbrev pub unless_about : Option WordFault → Result DaemonWords WordFault → Result DaemonWords WordFault
unless_about (Some fault) told = Err fault
unless_about None told = told

-- what the words tell
abbrev pub daemon_by : List (String Global) → Result DaemonWords WordFault
daemon_by words = unless_about (about words) (next (all_options 0 nothing_told words) (whole (length words)))

-- what the code gave is what is told; want of memory may stand in its place
abbrev pub Tells : {A : Type 0} → Result A WordFault → Result A WordFault → Type 0
Tells (Ok x) told = told ≡ Ok x
Tells (Err Memory) told = Unit {0}
Tells (Err fault) told = told ≡ Err fault
