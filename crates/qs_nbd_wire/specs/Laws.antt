-- What the definitions of this crate mean together.
use Rattle.std.specs.Prelude.{◌≡◌, ℕ, ◌+◌, ◌<◌, ◌^◌, List, [], ◌++◌, length, drop}
use Rattle.qs_bytes.specs.Numbers.{bytes32, number32}
use Rattle.qs_bytes.specs.declared.ask.Mode.{Mode}
use Rattle.qs_nbd_wire.specs.declared.export.ExportInfo2.{ExportInfo2}
use Rattle.qs_nbd_wire.specs.declared.request.RequestHead.{RequestHead}
use Rattle.qs_nbd_wire.specs.Exports.{export_answer}
use Rattle.qs_nbd_wire.specs.Options.{AreBytes, ClientOption, FitsOption, option_bytes, option_head_of, option_magic}
use Rattle.qs_nbd_wire.specs.Replies.{option_reply}
use Rattle.qs_nbd_wire.specs.Requests.{FitsHead, IsHead, head_bytes, head_of}

-- flags have one spelling, of four bytes, and these spell no other flags
pub record SpellsFlags : Type 0 where
  pub whole : (flags : ℕ) → length (bytes32 flags) ≡ 4
  pub again : (flags : ℕ) → (more : List ℕ) → flags < 2 ^ 32 → number32 (bytes32 flags ++ more) 0 ≡ flags
  pub one : (bytes : List ℕ) → AreBytes bytes → length bytes ≡ 4 → bytes ≡ bytes32 (number32 bytes 0)

-- an option has one spelling, of 16 bytes and its data, and these spell no other option
pub record SpellsOptions : Type 0 where
  pub whole : (o : ClientOption) → length (option_bytes o) ≡ 16 + length o.content
  pub again : (o : ClientOption) → (more : List ℕ) → FitsOption o →
      option_head_of (option_bytes o ++ more)
      ≡ record { magic = option_magic; number = o.number; length = length o.content }
  pub one : (bytes : List ℕ) → AreBytes bytes → (option_head_of bytes).magic ≡ option_magic →
      length bytes ≡ 16 + (option_head_of bytes).length →
      bytes ≡ option_bytes (record { number = (option_head_of bytes).number; content = drop 16 bytes })

-- a reply to an option: its option's number, its type and its payload
pub record Reply : Type 0 where
  pub number : ℕ
  pub kind : ℕ
  pub payload : List ℕ

-- number and type, and the payload's length, are within 32 bits
pub record FitsReply (r : Reply) : Type 0 where
  pub number : r.number < 2 ^ 32
  pub kind : r.kind < 2 ^ 32
  pub payload : length r.payload < 2 ^ 32

-- a reply has one spelling, and none is the beginning of another
abbrev pub RepliesStandApart : Type 0
RepliesStandApart =
    (r other : Reply) → (more : List ℕ) → FitsReply r → FitsReply other →
    option_reply other.number other.kind other.payload ≡ option_reply r.number r.kind r.payload ++ more →
    (other ≡ r) × (more ≡ [])

-- in one mode, no answer to EXPORT_NAME is the beginning of another
abbrev pub AnswersStandApart : Type 0
AnswersStandApart =
    (mode : Mode) → (info other : ExportInfo2) → (more : List ℕ) →
    export_answer mode other ≡ export_answer mode info ++ more → more ≡ []

-- the head of a request has one spelling, of 28 bytes, and these spell no other head
pub record SpellsHeads : Type 0 where
  pub whole : (h : RequestHead) → length (head_bytes h) ≡ 28
  pub again : (h : RequestHead) → FitsHead h → head_of (head_bytes h) ≡ h
  pub one : (bytes : List ℕ) → (a b : RequestHead) → IsHead bytes a → IsHead bytes b → a ≡ b
