-- A message's members and arguments, one by one.
use Rattle.std.specs.Prelude.{ℕ, Bool, false, not, ◌&&◌, ◌||◌, if◌then◌else◌, List, [], ◌∷◌, codes, Option, Some, None, is_some, option_map, option_and_then, Result, Ok, Err, ⊤}
use Rattle.std.specs.Borrow.{Bor}
use Rattle.std.specs.Str.{bytes_eq}
use Rattle.serde_json.specs.Data.{Data, Members, no_members, member}
use Rattle.serde_json.specs.Find.{get, as_object, as_str}
use Rattle.serde_json.specs.View.{view}
use Rattle.serde_json.specs.declared.value.Value.{Value}
use Rattle.qs_qmp_arguments.specs.declared.keys.ArgumentKeys.{ArgumentKeys}
use Rattle.qs_qmp_arguments.specs.declared.keys.ArgumentKeys.TheVariants as keys
use Rattle.qs_qmp_arguments.specs.Kinds.{id_text, short_text, whole_of, truth_of, choice_text}
use Rattle.qs_qmp_arguments.specs.Problems.{Problem, missing, unexpected, invalid}

-- a value that may be there, as its data
abbrev pub seen_data : Option (Bor Value) → Option Data
seen_data v = option_map (λ v. view v.now) v

-- the keys that an object may have
abbrev pub is_limit_key : List ℕ → Bool
is_limit_key k =
    bytes_eq k (codes "bps-total") || bytes_eq k (codes "bps-total-max") || bytes_eq k (codes "bps-total-max-length") ||
    bytes_eq k (codes "bps-read") || bytes_eq k (codes "bps-read-max") || bytes_eq k (codes "bps-read-max-length") ||
    bytes_eq k (codes "bps-write") || bytes_eq k (codes "bps-write-max") || bytes_eq k (codes "bps-write-max-length") ||
    bytes_eq k (codes "iops-total") || bytes_eq k (codes "iops-total-max") || bytes_eq k
    (codes "iops-total-max-length") ||
    bytes_eq k (codes "iops-read") || bytes_eq k (codes "iops-read-max") || bytes_eq k (codes "iops-read-max-length") ||
    bytes_eq k (codes "iops-write") || bytes_eq k (codes "iops-write-max") || bytes_eq k
    (codes "iops-write-max-length") ||
    bytes_eq k (codes "iops-size")

abbrev pub is_key : ArgumentKeys → List ℕ → Bool
is_key keys.Message k = bytes_eq k (codes "execute") || bytes_eq k (codes "arguments") || bytes_eq k (codes "id")
is_key keys.Capabilities k = bytes_eq k (codes "enable")
is_key (keys.Raw again) k =
    bytes_eq k (codes "driver") || bytes_eq k (codes "node-name") || bytes_eq k (codes "file") ||
    bytes_eq k (codes "offset") || bytes_eq k (codes "size") || (bytes_eq k (codes "read-only") && not again)
is_key (keys.Throttle again) k =
    bytes_eq k (codes "driver") || bytes_eq k (codes "node-name") || bytes_eq k (codes "file") ||
    bytes_eq k (codes "throttle-group") || (bytes_eq k (codes "read-only") && not again)
is_key keys.Node k = bytes_eq k (codes "node-name")
is_key keys.Reopen k = bytes_eq k (codes "options")
is_key keys.ObjectAdd k = bytes_eq k (codes "qom-type") || bytes_eq k (codes "id") || bytes_eq k (codes "limits")
is_key keys.Object k = bytes_eq k (codes "id")
is_key keys.ExportAdd k =
    bytes_eq k (codes "type") || bytes_eq k (codes "id") || bytes_eq k (codes "node-name") ||
    bytes_eq k (codes "name") || bytes_eq k (codes "writable") || bytes_eq k (codes "x-share")
is_key keys.ExportDel k = bytes_eq k (codes "id") || bytes_eq k (codes "mode")
is_key keys.Nothing k = false
is_key keys.Limits k = is_limit_key k
is_key keys.File k =
    bytes_eq k (codes "driver") || bytes_eq k (codes "node-name") || bytes_eq k (codes "filename") ||
    bytes_eq k (codes "x-align") || bytes_eq k (codes "read-only")
is_key keys.Listener k = bytes_eq k (codes "addr")
is_key keys.Inet k = bytes_eq k (codes "type") || bytes_eq k (codes "host") || bytes_eq k (codes "port")
is_key keys.Unix k = bytes_eq k (codes "type") || bytes_eq k (codes "path")
is_key keys.Chardev k = bytes_eq k (codes "backend") || bytes_eq k (codes "id")
is_key keys.Monitor k = bytes_eq k (codes "chardev")

-- an object's keys, in rising order
abbrev pub keys_of : Members → List (List ℕ)
keys_of no_members = []
keys_of (member k d ms) = k ∷ keys_of ms

abbrev pub keys_seen : Option Members → List (List ℕ)
keys_seen None = []
keys_seen (Some ms) = keys_of ms

abbrev pub keys_in : Option Data → List (List ℕ)
keys_in d = keys_seen (option_and_then as_object d)

-- the first that isn't among these
abbrev pub first_not : (List ℕ → Bool) → List (List ℕ) → Option (List ℕ)
first_not p [] = None
first_not p (k ∷ ks) = if p k then first_not p ks else Some k

abbrev pub argument : List ℕ → Option Data → Option Data
argument name args = option_and_then (λ d. get name d) args

abbrev pub text_at : List ℕ → Option Data → Option (List ℕ)
text_at name args = option_and_then as_str (argument name args)

-- arguments are an object, where they are there
abbrev pub are_arguments : Option Data → Result ⊤ Problem
are_arguments None = Ok tt
are_arguments (Some d) = if is_some (as_object d) then Ok tt else Err (invalid (codes "arguments"))

abbrev pub needs : List ℕ → Option Data → Result ⊤ Problem
needs name args = if is_some (argument name args) then Ok tt else Err (missing name)

abbrev pub has_no_other : Option (List ℕ) → Result ⊤ Problem
has_no_other None = Ok tt
has_no_other (Some k) = Err (unexpected k)

abbrev pub none_but : ArgumentKeys → Option Data → Result ⊤ Problem
none_but ks args = has_no_other (first_not (λ k. is_key ks k) (keys_in args))

-- what was found, or the refusal of the argument
abbrev pub or_invalid : {A : Type 0} → List ℕ → Option A → Result A Problem
or_invalid name None = Err (invalid name)
or_invalid name (Some x) = Ok x

abbrev pub or_missing : {A : Type 0} → List ℕ → Option A → Result A Problem
or_missing name None = Err (missing name)
or_missing name (Some x) = Ok x

-- an argument that may be left out
abbrev pub optional : {A : Type 0} → (Data → Option A) → List ℕ → Option Data → Result (Option A) Problem
optional read name None = Ok None
optional read name (Some d) = or_invalid name (option_map Some (read d))

abbrev pub id_at : List ℕ → Option Data → Result (List ℕ) Problem
id_at name args = or_invalid name (option_and_then id_text (text_at name args))

abbrev pub name_at : List ℕ → Option Data → Result (Option (List ℕ)) Problem
name_at name args = optional (λ d. option_and_then short_text (as_str d)) name (argument name args)

abbrev pub whole_at : List ℕ → Option Data → Result (Option ℕ) Problem
whole_at name args = optional whole_of name (argument name args)

abbrev pub truth_at : List ℕ → Option Data → Result (Option Bool) Problem
truth_at name args = optional truth_of name (argument name args)

-- one of two words: whether it is the first
abbrev pub choice_at : List ℕ → List ℕ → List ℕ → Option Data → Result (Option Bool) Problem
choice_at name on off args = optional (λ d. option_and_then (choice_text on off) (as_str d)) name (argument name args)

-- this word and no other
abbrev pub is_word : List ℕ → Option (List ℕ) → Bool
is_word word None = false
is_word word (Some s) = bytes_eq s word

abbrev pub is_word_at : List ℕ → List ℕ → Option Data → Result ⊤ Problem
is_word_at name word args = if is_word word (text_at name args) then Ok tt else Err (invalid name)
