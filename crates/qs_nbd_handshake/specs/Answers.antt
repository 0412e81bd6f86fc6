-- What answers each option, and how the session goes on (NBD proto.md, "Option types").
use Rattle.std.specs.Prelude.{◌≡◌, ℕ, Bool, true, if◌then◌else◌, List, [], ◌++◌, Option, Some}
use Rattle.std.specs.List.{flat_map}
use Rattle.qs_bytes.specs.declared.ask.Mode.{Mode}
use Rattle.qs_status.specs.declared.status.SessionEnd.TheVariants as ended
use Rattle.qs_nbd_wire.specs.declared.export.ExportInfo2.{ExportInfo2}
use Rattle.qs_nbd_wire.specs.declared.reply.OptionError.TheVariants.{Unsupported, Policy, Invalid, Unknown}
use Rattle.qs_nbd_wire.specs.declared.reply.OptionReply.TheVariants.{Ack, Server, Export, BlockSize, Refused}
use Rattle.qs_nbd_wire.specs.Exports.{export_answer, flags_of_export}
use Rattle.qs_nbd_wire.specs.Replies.{reply_bytes}
use Rattle.qs_nbd_handshake.specs.declared.event.HandStep.{HandStep}
use Rattle.qs_nbd_handshake.specs.declared.event.HandStep.TheVariants.{Stay, Transmit, Close}
use Rattle.qs_nbd_handshake.specs.declared.event.Told.{Told}
use Rattle.qs_nbd_handshake.specs.declared.event.Told.TheVariants as told
use Rattle.qs_nbd_handshake.specs.declared.event.Want.{Want}
use Rattle.qs_nbd_handshake.specs.declared.event.Want.TheVariants as want
use Rattle.qs_nbd_handshake.specs.declared.stage.Terms.{Terms}
use Rattle.qs_nbd_handshake.specs.declared.wish.Wish.{Wish}
use Rattle.qs_nbd_handshake.specs.declared.wish.Wish.TheVariants as wish
use Rattle.qs_nbd_handshake.specs.Phases.{Phase, InOption, Asked, Over, Reader}
use Rattle.qs_nbd_handshake.specs.Wishes.{want_of}

-- what may be told of a name: bytes that are no name name no export, and only one who attaches can
-- be one too many
abbrev pub CanFind : Option (List ℕ) → Told → Type 0
CanFind (Some name) (told.Info info) = Unit {0}
CanFind name told.Missing = Unit {0}
CanFind name other = ⊥

abbrev pub CanAttach : Option (List ℕ) → Told → Type 0
CanAttach (Some name) told.Crowded = Unit {0}
CanAttach name other = CanFind name other

-- what may be told to one who wants this
abbrev pub CanTell : Want → Told → Type 0
CanTell want.Nothing told.Nothing = Unit {0}
CanTell (want.Find name) t = CanFind name t
CanTell (want.Attach name) t = CanAttach name t
CanTell want.Names (told.Names names) = Unit {0}
CanTell other t = ⊥

-- an option waits for its answer, and this may be told for it
abbrev pub CanAnswer : Phase → Told → Type 0
CanAnswer (Asked w) t = CanTell (want_of w) t
CanAnswer other t = ⊥

-- what EXPORT_NAME is answered: nothing where there is no export to attach to
abbrev pub export_text : Mode → Told → List ℕ
export_text mode (told.Info info) = export_answer mode info
export_text mode other = []

-- the reply to LIST that tells a name
abbrev pub name_text : List ℕ → List ℕ
name_text name = reply_bytes 3 (Server name)

-- LIST: a reply for each name, and an ACK
abbrev pub names_text : Told → List ℕ
names_text (told.Names names) = flat_map name_text names ++ reply_bytes 3 Ack
names_text other = []

-- the informations on an export: EXPORT always, BLOCK_SIZE where it was asked for
abbrev pub informations : ℕ → Bool → Bool → ExportInfo2 → List ℕ
informations number structured sizes info =
    reply_bytes number (Export info.size (flags_of_export info structured))
    ++ (if sizes then reply_bytes number BlockSize else [])

-- INFO and GO: the informations and an ACK, or why there are none
abbrev pub info_text : ℕ → Bool → Bool → Told → List ℕ
info_text number structured sizes (told.Info info) = informations number structured sizes info ++ reply_bytes number Ack
info_text number structured sizes told.Crowded = reply_bytes number (Refused Policy)
info_text number structured sizes other = reply_bytes number (Refused Unknown)

-- what an option is answered
abbrev pub text_of : Mode → Wish → Told → List ℕ
text_of mode (wish.Export name) t = export_text mode t
text_of mode wish.Abort t = reply_bytes 2 Ack
text_of mode wish.List t = names_text t
text_of mode (wish.Info inquiry) t = info_text 6 mode.structured inquiry.sizes t
text_of mode (wish.Go inquiry) t = info_text 7 mode.structured inquiry.sizes t
text_of mode wish.Structured t = reply_bytes 8 Ack
text_of mode (wish.Malformed number) t = reply_bytes number (Refused Invalid)
text_of mode (wish.Unknown number) t = reply_bytes number (Refused Unsupported)

-- how EXPORT_NAME goes on
abbrev pub export_step : Mode → Told → HandStep
export_step mode (told.Info info) = Transmit mode
export_step mode told.Crowded = Close ended.Crowded
export_step mode other = Close ended.NoExport

-- how GO goes on
abbrev pub go_step : Mode → Told → HandStep
go_step mode (told.Info info) = Transmit mode
go_step mode other = Stay

-- how an option goes on
abbrev pub hand_step_of : Mode → Wish → Told → HandStep
hand_step_of mode (wish.Export name) t = export_step mode t
hand_step_of mode wish.Abort t = Close ended.Aborted
hand_step_of mode (wish.Go inquiry) t = go_step mode t
hand_step_of mode other t = Stay

-- the mode behind an option
abbrev pub mode_behind : Mode → Wish → Mode
mode_behind mode wish.Structured = record { no_zeroes = mode.no_zeroes; structured = true }
mode_behind mode other = mode

-- the phase behind an answer
abbrev pub phase_behind : HandStep → Phase
phase_behind Stay = InOption []
phase_behind (Transmit mode) = Over ended.Done
phase_behind (Close how) = Over how

-- the handshake behind the answer to this wish
abbrev pub reader_behind : Terms → Wish → Told → Reader
reader_behind terms w t = record {
  terms = record { fixed = terms.fixed; mode = mode_behind terms.mode w };
  phase = phase_behind (hand_step_of terms.mode w t);
}

-- These are the text, the step and the handshake behind it where this is told for an answer.
abbrev pub IsText : Mode → Phase → Told → List ℕ → Type 0
IsText mode (Asked w) t text = text ≡ text_of mode w t
IsText mode other t text = ⊥

abbrev pub IsStep : Mode → Phase → Told → HandStep → Type 0
IsStep mode (Asked w) t step = step ≡ hand_step_of mode w t
IsStep mode other t step = ⊥

abbrev pub IsBehind : Terms → Phase → Told → Reader → Type 0
IsBehind terms (Asked w) t new = new ≡ reader_behind terms w t
IsBehind terms other t new = ⊥
