-- What answers options (NBD proto.md, "Option reply types").
use Rattle.std.specs.Prelude.{ℕ, List, [], ◌++◌, length}
use Rattle.qs_bytes.specs.Numbers.{bytes16, bytes32, bytes64}
use Rattle.qs_nbd_wire.specs.declared.reply.OptionError.{OptionError}
use Rattle.qs_nbd_wire.specs.declared.reply.OptionError.TheVariants.{Unsupported, Policy, Invalid, Unknown}
use Rattle.qs_nbd_wire.specs.declared.reply.OptionReply.{OptionReply}
use Rattle.qs_nbd_wire.specs.declared.reply.OptionReply.TheVariants.{Ack, Server, Export, BlockSize, Refused}

-- the number that every reply begins with
abbrev pub reply_magic : ℕ
reply_magic = 0x0003e889045565a9

-- the front of a reply to the option of this number, of this type, with a payload of so many bytes
unfoldable pub reply_front : ℕ → ℕ → ℕ → List ℕ
reply_front number kind size = bytes64 reply_magic ++ bytes32 number ++ bytes32 kind ++ bytes32 size

-- the one spelling of a reply of any type
abbrev pub option_reply : ℕ → ℕ → List ℕ → List ℕ
option_reply number kind payload = reply_front number kind (length payload) ++ payload

abbrev pub error_number : OptionError → ℕ
error_number Unsupported = 0x80000001
error_number Policy = 0x80000002
error_number Invalid = 0x80000003
error_number Unknown = 0x80000006

-- the type of a reply
abbrev pub reply_kind : OptionReply → ℕ
reply_kind Ack = 1
reply_kind (Server name) = 2
reply_kind (Export size flags) = 3
reply_kind BlockSize = 3
reply_kind (Refused error) = error_number error

-- a name, behind its length
abbrev pub server_payload : List ℕ → List ℕ
server_payload name = bytes32 (length name) ++ name

-- the information EXPORT (0): the size and the flags of the transmission
abbrev pub export_payload : ℕ → ℕ → List ℕ
export_payload size flags = bytes16 0 ++ bytes64 size ++ bytes16 flags

-- the information BLOCK_SIZE (3): the least, the best and the greatest length of a request
abbrev pub sizes_payload : List ℕ
sizes_payload = bytes16 3 ++ bytes32 1 ++ bytes32 4096 ++ bytes32 33554432

-- the payload of a reply
abbrev pub reply_payload : OptionReply → List ℕ
reply_payload (Server name) = server_payload name
reply_payload (Export size flags) = export_payload size flags
reply_payload BlockSize = sizes_payload
reply_payload other = []

-- the one spelling of a reply
abbrev pub reply_bytes : ℕ → OptionReply → List ℕ
reply_bytes number reply = option_reply number (reply_kind reply) (reply_payload reply)
