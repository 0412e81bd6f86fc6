-- What the value of each option tells (qemu-storage-daemon's options, and `--workers`).
use Rattle.std.specs.Prelude.{ℕ, ◌-◌, Bool, false, ◌==◌, ◌||◌, ◌&&◌, nat_le, if◌then◌else◌, List, [], ◌∷◌, codes, Option, Some, None, unwrap_or, Result, Ok, Err, ⊤}
use Rattle.std.specs.Str.{bytes_eq}
use Rattle.serde_json.specs.Data.{Data, object}
use Rattle.serde_json.specs.Read.{read}
use Rattle.qs_keyval.specs.declared.fault.KeyvalFault.{KeyvalFault}
use Rattle.qs_keyval.specs.Reading.{begins_with_brace, chain, items_word, json_word}
use Rattle.qs_command.specs.declared.command.Command.{Command}
use Rattle.qs_qmp_arguments.specs.declared.command_name.CommandName.{CommandName}
use Rattle.qs_qmp_arguments.specs.declared.keys.ArgumentKeys.TheVariants as keys
use Rattle.qs_qmp_arguments.specs.Problems.{Problem, ◌>>=◌, generic, invalid}
use Rattle.qs_qmp_arguments.specs.Arguments.{argument, choice_at, id_at, is_word_at, none_but, or_invalid, or_missing, text_at, truth_at, whole_at}
use Rattle.qs_qmp_arguments.specs.Commands.{command_with}
use Rattle.qs_daemon_words.specs.declared.told.ImageFile.{ImageFile}
use Rattle.qs_daemon_words.specs.declared.told.Listen.{Listen}
use Rattle.qs_daemon_words.specs.declared.told.Listen.TheVariants.{Unix, Inet}

-- a word as a value: one JSON object where it begins with `{`, else items
abbrev pub read_value : Option (List ℕ) → List ℕ → Result Data KeyvalFault
read_value implied word =
    if begins_with_brace word then json_word (read word)
    else chain (items_word implied word) (λ members. Ok (object members))

abbrev pub or_no_value : Result Data KeyvalFault → Result Data Problem
or_no_value (Ok d) = Ok d
or_no_value (Err fault) = Err (generic (codes "Invalid option word"))

abbrev pub value_in : Option (List ℕ) → List ℕ → Result Data Problem
value_in implied word = or_no_value (read_value implied word)

-- an argument that is a text
abbrev pub string_at : List ℕ → Option Data → Result (List ℕ) Problem
string_at name args = or_invalid name (text_at name args)

-- ---- the image file

-- a block has 512 or 4096 bytes
abbrev pub as_align : Option ℕ → Result ℕ Problem
as_align None = Ok 512
as_align (Some n) = if n == 512 || n == 4096 then Ok n else Err (invalid (codes "x-align"))

unfoldable pub align_at : Option Data → Result ℕ Problem
align_at args = do
  align ← whole_at (codes "x-align") args
  as_align align

unfoldable pub file_of : Option Data → Result ImageFile Problem
file_of args = do
  _ ← is_word_at (codes "driver") (codes "file") args
  _ ← none_but keys.File args
  filename ← string_at (codes "filename") args
  node ← id_at (codes "node-name") args
  read_only ← truth_at (codes "read-only") args
  align ← align_at args
  Ok (record { node = node; filename = filename; align = align; read_only = unwrap_or read_only false })

unfoldable pub image_in : List ℕ → Result ImageFile Problem
image_in word = do
  d ← value_in (Some (codes "driver")) word
  file_of (Some d)

-- ---- nodes, groups and exports

unfoldable pub command_in : CommandName → List ℕ → List ℕ → Result Command Problem
command_in name implied word = do
  d ← value_in (Some implied) word
  command_with name (Some d)

-- ---- the listener

abbrev pub as_port : Option ℕ → Result ℕ Problem
as_port None = Err (invalid (codes "port"))
as_port (Some n) = if nat_le n 65535 then Ok n else Err (invalid (codes "port"))

unfoldable pub port_at : Option Data → Result ℕ Problem
port_at args = do
  port ← whole_at (codes "port") args
  as_port port

unfoldable pub unix_of : Option Data → Result Listen Problem
unix_of args = do
  _ ← none_but keys.Unix args
  path ← string_at (codes "path") args
  Ok (Unix path)

unfoldable pub inet_of : Option Data → Result Listen Problem
inet_of args = do
  _ ← none_but keys.Inet args
  host ← string_at (codes "host") args
  port ← port_at args
  Ok (Inet host port)

-- whether the type of an address is `unix`, else it is `inet`
unfoldable pub is_unix : Option Data → Result Bool Problem
is_unix args = do
  unix ← choice_at (codes "type") (codes "unix") (codes "inet") args
  or_missing (codes "type") unix

unfoldable pub address_of : Option Data → Result Listen Problem
address_of args = do
  unix ← is_unix args
  if unix then unix_of args else inet_of args

unfoldable pub listener_of : Option Data → Result Listen Problem
listener_of args = do
  _ ← none_but keys.Listener args
  address_of (argument (codes "addr") args)

unfoldable pub listen_in : List ℕ → Result Listen Problem
listen_in word = do
  d ← value_in None word
  listener_of (Some d)

-- ---- the monitor

unfoldable pub chardev_of : Option Data → Result (List ℕ) Problem
chardev_of args = do
  _ ← none_but keys.Chardev args
  _ ← is_word_at (codes "backend") (codes "stdio") args
  id_at (codes "id") args

unfoldable pub chardev_in : List ℕ → Result (List ℕ) Problem
chardev_in word = do
  d ← value_in (Some (codes "backend")) word
  chardev_of (Some d)

abbrev pub is_named : Option (List ℕ) → List ℕ → Bool
is_named None id = false
is_named (Some chardev) id = bytes_eq chardev id

-- a monitor stands over the character device of this id
unfoldable pub monitor_of : Option (List ℕ) → Option Data → Result ⊤ Problem
monitor_of chardev args = do
  _ ← none_but keys.Monitor args
  id ← id_at (codes "chardev") args
  if is_named chardev id then Ok tt else Err (invalid (codes "chardev"))

unfoldable pub monitor_in : Option (List ℕ) → List ℕ → Result ⊤ Problem
monitor_in chardev word = do
  d ← value_in (Some (codes "chardev")) word
  monitor_of chardev (Some d)

-- ---- the workers

-- a digit from 1 to 8
abbrev pub workers_in : List ℕ → Result ℕ Problem
workers_in (digit ∷ []) =
    if nat_le 49 digit && nat_le digit 56 then Ok (digit - 48) else Err (invalid (codes "workers"))
workers_in word = Err (invalid (codes "workers"))
