-- What a client asks by an option (NBD proto.md, "Option types").
use Rattle.std.specs.Prelude.{ℕ, Bool, not, ◌&&◌, ◌==◌, nat_lt, if◌then◌else◌, List, [], ◌∷◌, Option, Some, None}
use Rattle.qs_status.specs.declared.status.SessionEnd.{SessionEnd}
use Rattle.qs_status.specs.declared.status.SessionEnd.TheVariants.{BadMagic, TooLong, NotFixed}
use Rattle.qs_nbd_wire.specs.declared.option.OptionHead.{OptionHead}
use Rattle.qs_nbd_wire.specs.Options.{option_magic}
use Rattle.qs_nbd_handshake.specs.declared.event.Want.{Want}
use Rattle.qs_nbd_handshake.specs.declared.event.Want.TheVariants.{Nothing, Find, Attach, Names}
use Rattle.qs_nbd_handshake.specs.declared.inquiry.Inquiry.{Inquiry}
use Rattle.qs_nbd_handshake.specs.declared.wish.Wish.{Wish}
use Rattle.qs_nbd_handshake.specs.declared.wish.Wish.TheVariants as wish
use Rattle.qs_nbd_handshake.specs.Inquiries.{name_in, inquiry_of}

-- the most data of an option, in bytes
abbrev pub longest_option : ℕ
longest_option = 65536

-- the first rule that a head breaks: magic before length before the client's newstyle
abbrev pub option_fault : Bool → OptionHead → Option SessionEnd
option_fault fixed h =
    if not (h.magic == option_magic) then Some (BadMagic h.magic) else
    (if nat_lt longest_option h.length then Some (TooLong h.length) else
    (if not fixed && not (h.number == 1) then Some (NotFixed h.number) else None))

-- an option that takes no data
abbrev pub bare_wish : ℕ → List ℕ → Wish → Wish
bare_wish number [] w = w
bare_wish number (byte ∷ bytes) w = wish.Malformed number

-- an option whose data are an inquiry
abbrev pub info_wish : ℕ → Option Inquiry → Wish
info_wish number (Some inquiry) = wish.Info inquiry
info_wish number None = wish.Malformed number

abbrev pub go_wish : ℕ → Option Inquiry → Wish
go_wish number (Some inquiry) = wish.Go inquiry
go_wish number None = wish.Malformed number

-- EXPORT_NAME is 1, ABORT 2, LIST 3, INFO 6, GO 7, and STRUCTURED_REPLY 8
abbrev pub wish_of : ℕ → List ℕ → Wish
wish_of number bytes =
    if number == 1 then wish.Export (name_in bytes) else
    (if number == 2 then wish.Abort else
    (if number == 3 then bare_wish number bytes wish.List else
    (if number == 6 then info_wish number (inquiry_of bytes) else
    (if number == 7 then go_wish number (inquiry_of bytes) else
    (if number == 8 then bare_wish number bytes wish.Structured else wish.Unknown number)))))

-- what is wanted for the answer
abbrev pub want_of : Wish → Want
want_of (wish.Export name) = Attach name
want_of wish.List = Names
want_of (wish.Info inquiry) = Find inquiry.name
want_of (wish.Go inquiry) = Attach inquiry.name
want_of other = Nothing
