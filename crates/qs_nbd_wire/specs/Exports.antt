-- What is told of an export (NBD proto.md, "Transmission flags" and "NBD_OPT_EXPORT_NAME").
use Rattle.std.specs.Prelude.{ℕ, ◌+◌, Bool, if◌then◌else◌, List, [], ◌++◌, replicate}
use Rattle.qs_bytes.specs.Numbers.{bytes16, bytes64}
use Rattle.qs_bytes.specs.declared.ask.Mode.{Mode}
use Rattle.qs_nbd_wire.specs.declared.export.ExportInfo2.{ExportInfo2}

abbrev pub has_flags : ℕ
has_flags = 0x1

abbrev pub read_only : ℕ
read_only = 0x2

abbrev pub send_flush : ℕ
send_flush = 0x4

abbrev pub send_fua : ℕ
send_fua = 0x8

abbrev pub send_trim : ℕ
send_trim = 0x20

abbrev pub send_write_zeroes : ℕ
send_write_zeroes = 0x40

abbrev pub send_df : ℕ
send_df = 0x80

abbrev pub can_multi_conn : ℕ
can_multi_conn = 0x100

-- the flags of the transmission on an export: 0x16d where it may be written and 0x10f where it may
-- not, and SEND_DF besides where replies are structured
abbrev pub flags_of_export : ExportInfo2 → Bool → ℕ
flags_of_export info structured =
    has_flags + send_flush + send_fua + can_multi_conn
    + (if info.writable then send_trim + send_write_zeroes else read_only)
    + (if structured then send_df else 0)

-- the zeros at the end of EXPORT_NAME's answer, where they aren't left out
abbrev pub zeros_told : Bool → List ℕ
zeros_told left_out = if left_out then [] else replicate 124 0

-- the answer to EXPORT_NAME
abbrev pub export_answer : Mode → ExportInfo2 → List ℕ
export_answer mode info = bytes64 info.size ++ bytes16 (flags_of_export info mode.structured)
    ++ zeros_told mode.no_zeroes
