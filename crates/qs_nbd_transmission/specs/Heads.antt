-- What the head of a request asks for, and fronts of a head (NBD proto.md, "Request message").
use Rattle.std.specs.Prelude.{◌≡◌, ℕ, ◌<◌, ◌≤◌, Bool, true, false, not, ◌&&◌, ◌||◌, ◌==◌, nat_lt, if◌then◌else◌, List, length}
use Rattle.std.specs.Int.Bits.{bit_and}
use Rattle.qs_bytes.specs.Numbers.{number32}
use Rattle.qs_bytes.specs.declared.ask.Ask.{Ask}
use Rattle.qs_bytes.specs.declared.ask.Kind.{Kind}
use Rattle.qs_bytes.specs.declared.ask.Kind.TheVariants.{Read, Write, Zero, Trim, Flush, Unknown}
use Rattle.qs_nbd_wire.specs.declared.request.RequestHead.{RequestHead}
use Rattle.qs_nbd_wire.specs.Requests.{request_magic}

-- less than a head, with its magic as far as four bytes are there
pub record IsHeadFront (bytes : List ℕ) : Type 0 where
  pub short : length bytes < 28
  pub magic : 4 ≤ length bytes → number32 bytes 0 ≡ request_magic

-- the types of proto.md, "Request types"
abbrev pub kind_of : ℕ → Kind
kind_of n = if n == 0 then Read else (if n == 1 then Write
    else (if n == 3 then Flush else (if n == 4 then Trim else (if n == 6 then Zero else Unknown n))))

-- one of the flags of proto.md, "Command flags", is set: FUA is 1, NO_HOLE 2 and DF 4
abbrev pub has_flag : ℕ → ℕ → Bool
has_flag flags flag = not (bit_and flags flag == 0)

-- FUA fits every type, NO_HOLE WRITE_ZEROES alone, DF READ alone and only where replies are
-- structured, and no other flag fits any
abbrev pub flags_fit_of : Bool → RequestHead → Bool
flags_fit_of structured h =
    nat_lt h.flags 8 && (not (has_flag h.flags 2) || h.kind == 6) && (not
    (has_flag h.flags 4) || (structured && h.kind == 0))

-- what the head asks for
abbrev pub ask_of : Bool → RequestHead → Ask
ask_of structured h = record {
  kind = kind_of h.kind;
  fua = has_flag h.flags 1;
  flags_fit = flags_fit_of structured h;
  cookie = h.cookie;
  offset = h.offset;
  length = h.size;
}

abbrev pub is_write : Kind → Bool
is_write Write = true
is_write other = false

-- data follow the head of this request
abbrev pub has_data : Ask → Bool
has_data ask = is_write ask.kind && nat_lt 0 ask.length
