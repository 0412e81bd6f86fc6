-- Options, by which a client asks before its requests (NBD proto.md, "Option types").
use Rattle.std.specs.Prelude.{ℕ, ◌<◌, ◌^◌, List, ◌++◌, length, get_or}
use Rattle.qs_bytes.specs.Numbers.{bytes32, bytes64, number32, number64}
use Rattle.qs_nbd_wire.specs.declared.option.OptionHead.{OptionHead}

-- each is a byte
abbrev pub AreBytes : List ℕ → Type 0
AreBytes bytes = (i : ℕ) → get_or bytes i 0 < 256

-- IHAVEOPT
abbrev pub option_magic : ℕ
option_magic = 0x49484156454f5054

-- an option: its number, and its data
pub record ClientOption : Type 0 where
  pub number : ℕ
  pub content : List ℕ

-- number, and the data's length, are within 32 bits
pub record FitsOption (o : ClientOption) : Type 0 where
  pub number : o.number < 2 ^ 32
  pub content : length o.content < 2 ^ 32

-- the head of an option of this number, with so many bytes of data
unfoldable pub option_head_bytes : ℕ → ℕ → List ℕ
option_head_bytes number size = bytes64 option_magic ++ bytes32 number ++ bytes32 size

-- the one spelling of an option
abbrev pub option_bytes : ClientOption → List ℕ
option_bytes o = option_head_bytes o.number (length o.content) ++ o.content

-- the head that 16 bytes spell
unfoldable pub option_head_of : List ℕ → OptionHead
option_head_of bytes = record { magic = number64 bytes 0; number = number32 bytes 8; length = number32 bytes 12 }
