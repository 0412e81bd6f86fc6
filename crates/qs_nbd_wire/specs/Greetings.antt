-- How a handshake begins (NBD proto.md, "Newstyle negotiation").
use Rattle.std.specs.Prelude.{ℕ, ◌||◌, ◌==◌, nat_lt, if◌then◌else◌, List, ◌++◌, Option, Some, None}
use Rattle.qs_bytes.specs.Numbers.{bytes16, bytes64}
use Rattle.qs_nbd_wire.specs.declared.opening.ClientFlags.{ClientFlags}
use Rattle.qs_nbd_wire.specs.Options.{option_magic}

-- NBDMAGIC, the magic of options, and the flags FIXED_NEWSTYLE (bit 0) and NO_ZEROES (bit 1)
unfoldable pub greeting_bytes : List ℕ
greeting_bytes = bytes64 0x4e42444d41474943 ++ bytes64 option_magic ++ bytes16 3

-- the client's flags, of the same meanings; a bit above 1 has none
abbrev pub flags_of : ℕ → Option ClientFlags
flags_of flags = if nat_lt 3 flags then None else Some
    (record { fixed = flags == 1 || flags == 3; no_zeroes = nat_lt 1 flags })
