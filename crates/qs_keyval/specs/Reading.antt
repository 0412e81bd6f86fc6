-- What an option word reads as (qemu-storage-daemon, "keyval" syntax).
use Rattle.std.specs.Prelude.{◌≡◌, ℕ, Bool, true, false, not, ◌&&◌, ◌||◌, ◌==◌, if◌then◌else◌, List, [], ◌∷◌, ◌++◌, length, Option, Some, None, is_some, Result, Ok, Err}
use Rattle.std.specs.List.{list_all}
use Rattle.std.specs.Char.{is_ascii_alphanumeric}
use Rattle.serde_json.specs.Data.{Data, string, object, Members, no_members, put}
use Rattle.serde_json.specs.Find.{as_object, get_member}
use Rattle.serde_json.specs.Read.{read}
use Rattle.qs_keyval.specs.declared.fault.KeyvalFault.{KeyvalFault}
use Rattle.qs_keyval.specs.declared.fault.KeyvalFault.TheVariants.{BadKey, NoValue, Clash, BadJson, Memory}
use Rattle.qs_keyval.specs.Cutting.{Item, Sides, onto, items_from, split_first}

abbrev pub dot : ℕ
dot = 46

abbrev pub equals : ℕ
equals = 61

abbrev pub brace : ℕ
brace = 123

-- the next step, where this one went well
abbrev pub chain : {A B : Type 0} → Result A KeyvalFault → (A → Result B KeyvalFault) → Result B KeyvalFault
chain (Ok x) step = step x
chain (Err fault) step = Err fault

-- what the code gave is what is read; want of memory may stand in its place
abbrev pub Gives : {A B : Type 0} → (A → B) → Result A KeyvalFault → Result B KeyvalFault → Type 0
Gives see (Ok x) read = read ≡ Ok (see x)
Gives see (Err Memory) read = Unit {0}
Gives see (Err fault) read = read ≡ Err fault

-- this fault, or want of memory
abbrev pub Fails : KeyvalFault → KeyvalFault → Type 0
Fails wanted Memory = Unit {0}
Fails wanted fault = fault ≡ wanted

-- ASCII letters, digits, `-` and `_`
abbrev pub is_key_byte : ℕ → Bool
is_key_byte b = is_ascii_alphanumeric b || b == 45 || b == 95

-- a key is cut at its dots
abbrev pub parts_of : List ℕ → List (List ℕ)
parts_of [] = [] ∷ []
parts_of (b ∷ bytes) = if b == dot then [] ∷ parts_of bytes else onto b (parts_of bytes)

-- each part has some bytes, all of them a key's; where the part that goes on has none yet, one is still wanted
abbrev pub is_dotted_key : Bool → List ℕ → Bool
is_dotted_key is_empty [] = not is_empty
is_dotted_key is_empty (b ∷ bytes) = if b == dot then not is_empty && is_dotted_key true bytes
    else is_key_byte b && is_dotted_key false bytes

abbrev pub is_part : List ℕ → Bool
is_part [] = false
is_part (b ∷ bytes) = is_key_byte b && list_all is_key_byte bytes

-- a key is one or more parts, none of them empty
abbrev pub HasKeyParts : Type 0
HasKeyParts = (key : List ℕ) → is_dotted_key true key ≡ list_all is_part (parts_of key)

-- the parts of an item's key, and its value
pub record Entry : Type 0 where
  pub key : List (List ℕ)
  pub value : List ℕ

-- an item, which may be a value alone where a key is implied
abbrev pub alone : Option (List ℕ) → Item → Result Entry KeyvalFault
alone None item = Err (NoValue item.at)
alone (Some key) item = Ok (record { key = key ∷ []; value = item.text })

abbrev pub keyed : Option (List ℕ) → Item → Option Sides → Result Entry KeyvalFault
keyed implied item None = alone implied item
keyed implied item (Some parts) = if is_dotted_key true parts.0
    then Ok (record { key = parts_of parts.0; value = parts.1 }) else Err (BadKey item.at)

abbrev pub entry_of : Option (List ℕ) → Item → Result Entry KeyvalFault
entry_of implied item = if length item.text == 0 then Err (BadKey item.at)
    else keyed implied item (split_first equals item.text)

-- the members with a value at the key: no object may stand there
abbrev pub holds_object : Option Data → Bool
holds_object None = false
holds_object (Some d) = is_some (as_object d)

abbrev pub set_at : List ℕ → List ℕ → List ℕ → Members → Result Members KeyvalFault
set_at before part value members =
    if holds_object (get_member part members) then Err (Clash (before ++ part))
    else Ok (put part (string value) members)

-- the members of the object at the key: no value may stand there
abbrev pub inner_of : List ℕ → Option Members → Result Members KeyvalFault
inner_of key None = Err (Clash key)
inner_of key (Some members) = Ok members

abbrev pub inner_at : List ℕ → Option Data → Result Members KeyvalFault
inner_at key None = Ok no_members
inner_at key (Some d) = inner_of key (as_object d)

-- the members with a value at the key of these parts, behind the parts before
abbrev pub add : List ℕ → List (List ℕ) → List ℕ → Members → Result Members KeyvalFault
add before [] value members = Ok members
add before (part ∷ []) value members = set_at before part value members
add before (part ∷ next ∷ parts) value members =
    chain (inner_at (before ++ part) (get_member part members)) (λ inner.
    chain (add (before ++ part ++ dot ∷ []) (next ∷ parts) value inner) (λ more.
    Ok (put part (object more) members)))

-- the members with what an item says
abbrev pub add_item : Option (List ℕ) → Item → Members → Result Members KeyvalFault
add_item implied item members = chain (entry_of implied item) (λ entry. add [] entry.key entry.value members)

-- the items one after the other; the first alone may have the implied key
abbrev pub read_items : Option (List ℕ) → List Item → Members → Result Members KeyvalFault
read_items implied [] members = Ok members
read_items implied (item ∷ items) members = chain (add_item implied item members) (λ more. read_items None items more)

abbrev pub items_word : Option (List ℕ) → List ℕ → Result Members KeyvalFault
items_word implied word = read_items implied (items_from 0 word) no_members

-- one JSON object
abbrev pub json_word : Option Data → Result Data KeyvalFault
json_word (Some d) = Ok d
json_word None = Err BadJson

abbrev pub begins_with_brace : List ℕ → Bool
begins_with_brace [] = false
begins_with_brace (b ∷ bytes) = b == brace
