-- A client's requests (NBD proto.md, "Request message"): a head of 28 bytes, and behind that of a WRITE its data.
use Rattle.std.specs.Prelude.{◌≡◌, ◌≢◌, ℕ, ◌<◌, ◌^◌, Bool, false, ◌&&◌, ◌==◌, nat_lt, if◌then◌else◌, List, ◌++◌, length}
use Rattle.qs_bytes.specs.Numbers.{bytes16, bytes32, bytes64, number16, number32, number64}
use Rattle.qs_bytes.specs.Payloads.{max_payload}
use Rattle.qs_nbd_wire.specs.declared.request.RequestHead.{RequestHead}

-- the number that every head begins with
abbrev pub request_magic : ℕ
request_magic = 0x25609513

-- each field is within its width
pub record FitsHead (h : RequestHead) : Type 0 where
  pub flags : h.flags < 2 ^ 16
  pub kind : h.kind < 2 ^ 16
  pub cookie : h.cookie < 2 ^ 64
  pub offset : h.offset < 2 ^ 64
  pub size : h.size < 2 ^ 32

-- the one spelling of a head
unfoldable pub head_bytes : RequestHead → List ℕ
head_bytes h = bytes32 request_magic ++ bytes16 h.flags ++ bytes16 h.kind ++ bytes64 h.cookie ++ bytes64 h.offset
    ++ bytes32 h.size

-- the head that 28 bytes spell
unfoldable pub head_of : List ℕ → RequestHead
head_of bytes = record {
  flags = number16 bytes 4;
  kind = number16 bytes 6;
  cookie = number64 bytes 8;
  offset = number64 bytes 16;
  size = number32 bytes 24;
}

-- the bytes are those of this head
pub record IsHead (bytes : List ℕ) (h : RequestHead) : Type 0 where
  pub fits : FitsHead h
  pub spelled : bytes ≡ head_bytes h

-- DISC, the type by which a client leaves
abbrev pub disc : ℕ
disc = 2

-- the head of a WRITE
abbrev pub is_write_head : RequestHead → Bool
is_write_head h = h.kind == 1

-- a WRITE of more than 32 MiB
abbrev pub is_too_long : RequestHead → Bool
is_too_long h = is_write_head h && nat_lt max_payload h.size

-- data follow the head
abbrev pub has_body : RequestHead → Bool
has_body h = is_write_head h && nat_lt 0 h.size

-- a request: its head, and the data of a WRITE
pub record Message : Type 0 where
  pub head : RequestHead
  pub body : List ℕ

-- the one spelling of a message
abbrev pub spelling : Message → List ℕ
spelling m = head_bytes m.head ++ m.body

-- a message that is served
pub record IsMessage (m : Message) : Type 0 where
  pub fits : FitsHead m.head
  pub not_disc : m.head.kind ≢ disc
  pub not_long : is_too_long m.head ≡ false
  pub body : length m.body ≡ (if has_body m.head then m.head.size else 0)

-- no whole message stands at the front
abbrev pub BeginsNone : List ℕ → Type 0
BeginsNone bytes = (m : Message) → (more : List ℕ) → IsMessage m → bytes ≡ spelling m ++ more → ⊥
