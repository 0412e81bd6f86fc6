-- What the words of a script's lines spell.
use Rattle.std.specs.Prelude.{◌≡◌, ℕ, ◌<◌, ◌≤◌, EachIndex, slice_index, List, [], ◌∷◌, ◌++◌, length, replicate, codes, Ok}
use Rattle.std.specs.Fmt.{decimal}
use Rattle.std.specs.Int.{IsInRange}
use Rattle.std.specs.List.{AllZip}
use Rattle.hex.specs.Hex.{decode_of}
use Rattle.qs_bytes.specs.Payloads.{max_payload}
use Rattle.qs_outside.specs.declared.rigged_disk.Fail.{Fail}
use Rattle.qs_outside.specs.declared.rigged_disk.Fail.TheVariants.{Load, StoreOld, StoreNew, Sync}
use Rattle.qs_script.specs.SessionNames.{IsSessionName}
use Rattle.qs_script.specs.declared.actor.ScriptActor.{ScriptActor}
use Rattle.qs_script.specs.declared.actor.ScriptActor.TheVariants.{Session, Request}
use Rattle.qs_script.specs.declared.data.DataFault.{DataFault}
use Rattle.qs_script.specs.declared.data.DataFault.TheVariants.{OutOfForm, Memory}
use Rattle.qs_script.specs.declared.picks.PicksFault.{PicksFault}
use Rattle.qs_script.specs.declared.picks.PicksFault.TheVariants as picks

-- decimal digits, the first of which is `0` only where it is alone
pub record IsPlain (word : List ℕ) : Type 0 where
  pub digits : EachIndex word (λ k. IsInRange 48 57 (slice_index word k))
  pub some : 0 < length word
  pub first : slice_index word 0 ≡ 48 → length word ≡ 1

-- decimal digits without leading zeros, of a number up to some greatest one
pub record SpellsNumber (most : ℕ) (word : List ℕ) (n : ℕ) : Type 0 where
  pub small : n ≤ most
  pub digits : word ≡ decimal n

-- the greatest cookie, offset or reading, and the greatest length
abbrev pub greatest : ℕ
greatest = 0xffff_ffff_ffff_ffff

abbrev pub greatest_length : ℕ
greatest_length = 0xffff_ffff

-- a session, or a request of one by its cookie: `A` and `A.1`
abbrev pub SpellsActor : List ℕ → ScriptActor → Type 0
SpellsActor word (Session s) = (word ≡ s) × IsSessionName s
SpellsActor word (Request s c) = (digits : List ℕ)
    × ((word ≡ s ++ 46 ∷ digits) × IsSessionName s × SpellsNumber greatest digits c)

-- one byte, spelled by a pair of digits, over and over
pub record Repeats (pair digits bytes : List ℕ) : Type 0 where
  pub byte : ℕ
  pub count : ℕ
  pub one : decode_of pair ≡ Ok (byte ∷ [])
  pub times : SpellsNumber max_payload digits count
  pub is : bytes ≡ replicate count byte

-- the data of a WRITE: `-` for none, `11*512` for one byte over and over, or pairs of hexadecimal digits
pub data SpellsData (word bytes : List ℕ) : Type 0 where
  nothing : word ≡ codes "-" → bytes ≡ [] → SpellsData word bytes
  repeated : (pair digits : List ℕ) → word ≡ pair ++ 42 ∷ digits → Repeats pair digits bytes → SpellsData word bytes
  pairs : 1 ≤ length word → decode_of word ≡ Ok bytes → SpellsData word bytes

-- why a word gives no data: it spells none, or so many bytes, which found no memory
abbrev pub IsDataFault : (List ℕ → Type 0) → DataFault → Type 0
IsDataFault spells OutOfForm = (bytes : List ℕ) → ¬ spells bytes
IsDataFault spells (Memory size) = (bytes : List ℕ) × (spells bytes × (length bytes ≡ size))

-- `B=N`: a block, and the place of its content among those that a crash may leave
pub record SpellsPick (word : List ℕ) (pick : ℕ × ℕ) : Type 0 where
  pub block : List ℕ
  pub place : List ℕ
  pub whole : word ≡ block ++ 61 ∷ place
  pub block_is : SpellsNumber greatest block pick.0
  pub place_is : SpellsNumber greatest place pick.1

-- words that each spell such a pair
abbrev pub SpellPicks : List (List ℕ) → List (ℕ × ℕ) → Type 0
SpellPicks words picks = AllZip SpellsPick words picks

-- why words give no pairs: they spell none, or they found no memory
abbrev pub IsPicksFault : (List (ℕ × ℕ) → Type 0) → PicksFault → Type 0
IsPicksFault spells picks.OutOfForm = (pairs : List (ℕ × ℕ)) → ¬ spells pairs
IsPicksFault spells picks.Memory = (pairs : List (ℕ × ℕ)) × spells pairs

-- the failures that can be planned
abbrev pub fail_word : Fail → List ℕ
fail_word Load = codes "load"
fail_word StoreOld = codes "store-old"
fail_word StoreNew = codes "store-new"
fail_word Sync = codes "sync"
