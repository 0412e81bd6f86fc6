-- Replies (NBD proto.md, "Simple reply message" and "Structured reply chunk message").
use Rattle.std.specs.Prelude.{◌≡◌, ℕ, ◌+◌, ◌≤◌, Bool, true, false, ◌&&◌, ◌==◌, if◌then◌else◌, List, [], ◌++◌, length}
use Rattle.qs_bytes.specs.Numbers.{bytes16, bytes32, bytes64}
use Rattle.qs_bytes.specs.Errnos.{errno_number}
use Rattle.qs_bytes.specs.declared.ask.Ask.{Ask}
use Rattle.qs_bytes.specs.declared.ask.Errno.{Errno}
use Rattle.qs_bytes.specs.declared.ask.Kind.{Kind}
use Rattle.qs_bytes.specs.declared.ask.Kind.TheVariants.{Read}
use Rattle.qs_bytes.specs.declared.ask.Verdict.{Verdict}
use Rattle.qs_bytes.specs.declared.ask.Verdict.TheVariants.{Got, Fine, Refused, Dropped}
use Rattle.qs_bytes.specs.Payloads.{max_payload}

abbrev pub is_read : Kind → Bool
is_read Read = true
is_read other = false

-- What can be replied to a request: bytes to a READ of so many, success to what asks for no bytes, or
-- an error.
abbrev pub CanReply : Ask → Verdict → Type 0
CanReply ask (Got bytes) = (ask.kind ≡ Read) × (length bytes ≡ ask.length) × (ask.length ≤ max_payload)
CanReply ask Fine = is_read ask.kind ≡ true → ask.length ≡ 0
CanReply ask (Refused errno) = Unit {0}
CanReply ask Dropped = ⊥

-- the number in the place of a reply's error; 0 is success
abbrev pub error_of : Verdict → ℕ
error_of (Refused errno) = errno_number errno
error_of other = 0

-- the data of a reply
abbrev pub data_of : Verdict → List ℕ
data_of (Got bytes) = bytes
data_of other = []

-- a simple reply, before its data
unfoldable pub simple_front : ℕ → ℕ → List ℕ
simple_front error cookie = bytes32 0x67446698 ++ bytes32 error ++ bytes64 cookie

-- the head of a chunk of this type that is the last of its reply, by its flag DONE; its payload has
-- so many bytes
unfoldable pub chunk_head : ℕ → ℕ → ℕ → List ℕ
chunk_head kind cookie size = bytes32 0x668e33ef ++ bytes16 1 ++ bytes16 kind ++ bytes64 cookie ++ bytes32 size

-- the chunk that answers a READ with its bytes, before them: of type NONE (0) where it asks for none,
-- else OFFSET_DATA (1) with the offset
abbrev pub bytes_front : Ask → List ℕ
bytes_front ask =
    if ask.length == 0 then chunk_head 0 ask.cookie 0
    else chunk_head 1 ask.cookie (8 + ask.length) ++ bytes64 ask.offset

-- the chunk that answers a READ with an error: of type ERROR (0x8001), with the number and an empty text
abbrev pub error_front : ℕ → Errno → List ℕ
error_front cookie errno = chunk_head 0x8001 cookie 6 ++ bytes32 (errno_number errno) ++ bytes16 0

-- the one chunk that answers a READ, before its data
abbrev pub chunk_front : Ask → Verdict → List ℕ
chunk_front ask (Refused errno) = error_front ask.cookie errno
chunk_front ask other = bytes_front ask

-- a reply, before its data: a chunk to a READ where replies are structured, else a simple reply
abbrev pub reply_front : Bool → Ask → Verdict → List ℕ
reply_front structured ask verdict =
    if structured && is_read ask.kind then chunk_front ask verdict else simple_front (error_of verdict) ask.cookie

-- the one spelling of a reply
abbrev pub reply_of : Bool → Ask → Verdict → List ℕ
reply_of structured ask verdict = reply_front structured ask verdict ++ data_of verdict
