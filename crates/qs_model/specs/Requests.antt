-- A client's request: the places that it covers, the blocks that it reaches, and the machine that it is.
use Rattle.std.specs.Prelude.{ℕ, zero, suc, ◌+◌, ◌-◌, ◌*◌, ◌/◌, ◌%◌, min, max, Bool, true, false, not, ◌&&◌, ◌||◌, ◌==◌, nat_lt, nat_le, if◌then◌else◌, List, [], ◌++◌, get_or}
use Rattle.qs_bytes.specs.Geometry.{stripe_of}
use Rattle.qs_bytes.specs.Payloads.{max_payload}
use Rattle.qs_bytes.specs.declared.ask.Ask.{Ask}
use Rattle.qs_bytes.specs.declared.ask.Kind.{Kind}
use Rattle.qs_bytes.specs.declared.ask.Kind.TheVariants.{Read, Write, Zero, Trim, Flush, Unknown}
use Rattle.qs_bytes.specs.declared.ask.Errno.TheVariants.{Perm, Io, NoMem, Inval, NoSpace}
use Rattle.qs_bytes.specs.declared.ask.Verdict.{Verdict}
use Rattle.qs_bytes.specs.declared.ask.Verdict.TheVariants.{Got, Fine, Refused, Dropped}
use Rattle.qs_bytes.specs.Spans.{Places}
use Rattle.qs_bytes.specs.Pieces.{part}
use Rattle.qs_part.specs.declared.graph.Route.{Route}
use Rattle.qs_part.specs.declared.stripe.Side.{Side}
use Rattle.qs_part.specs.declared.stripe.Side.TheVariants.{Head, Tail}

-- What a client asked for: its session, the place of the session's export, the request as it was
-- read, a WRITE's bytes, whether its buffers were given, and its way to the image.
pub record Client : Type 0 where
  pub session : ℕ
  pub export : ℕ
  pub ask : Ask
  pub body : List ℕ
  pub buffered : Bool
  pub route : Route

-- the way of a request that has none yet: no place, and nothing may be written
abbrev pub no_route : Route
no_route = record { offset = 0; size = 0; writable = false; groups = []; count = 0 }

-- the kinds of request (NBD proto.md, "Request types"): READ, WRITE, WRITE_ZEROES, TRIM and FLUSH
abbrev pub is_known : Kind → Bool
is_known (Unknown n) = false
is_known _ = true

abbrev pub is_read : Kind → Bool
is_read Read = true
is_read _ = false

abbrev pub is_flush : Kind → Bool
is_flush Flush = true
is_flush _ = false

abbrev pub is_trim : Kind → Bool
is_trim Trim = true
is_trim _ = false

-- a request of this kind brings bytes with it
abbrev pub brings_bytes : Kind → Bool
brings_bytes Write = true
brings_bytes _ = false

-- it stores bytes: those that it brings, or zeros
abbrev pub stores_bytes : Kind → Bool
stores_bytes Write = true
stores_bytes Zero = true
stores_bytes _ = false

-- it wants a way that may be written: it stores bytes, or gives up its places
abbrev pub wants_writable : Kind → Bool
wants_writable Trim = true
wants_writable kind = stores_bytes kind

abbrev pub reads : Client → Bool
reads c = is_read c.ask.kind

abbrev pub writes : Client → Bool
writes c = stores_bytes c.ask.kind

-- the places of the image that the request covers: those that it asked for, moved by its way
abbrev pub span_of : Client → Places
span_of c = record { lo = c.route.offset + c.ask.offset; hi = c.route.offset + c.ask.offset + c.ask.length }

abbrev pub covers : Client → ℕ → Bool
covers c x = nat_le (span_of c).lo x && nat_lt x (span_of c).hi

-- the byte that a WRITE has for a place; a WRITE_ZEROES brings none, and has zero
abbrev pub body_at : Client → ℕ → ℕ
body_at c x = get_or c.body (x - (span_of c).lo) 0

-- the blocks of the first place and of the last one; a block is A bytes
unfoldable pub edge : ℕ → Client → Side → ℕ
edge A c Head = (span_of c).lo / A
edge A c Tail = ((span_of c).hi - 1) / A

-- The head is the first block where the span doesn't cover it wholly. The tail is the last block
-- where it isn't covered wholly and isn't the first.
unfoldable pub has : ℕ → Client → Side → Bool
has A c Head = not ((span_of c).lo == edge A c Head * A) || nat_lt (span_of c).hi (edge A c Head * A + A)
has A c Tail = not (edge A c Tail == edge A c Head) && nat_lt (span_of c).hi (edge A c Tail * A + A)

-- a serialising request: one that stores bytes and whose span isn't whole blocks (QEMU block/io.c)
unfoldable pub serial : ℕ → Client → Bool
serial A c = writes c && not ((span_of c).lo % A == 0 && (span_of c).hi % A == 0)

-- the operation that a request in flight does next
pub data Step : Type 0 where
  ToRoute : Step
  ToList : Step
  ToStart : Step
  ToLoad : (b : ℕ) (got : List ℕ) → Step
  ToHold : Side → Step
  ToStore : (b : ℕ) → Step
  ToSync : (s : ℕ) → Step
  ToFree : Side → Step
  ToEnd : Verdict → Step

-- a request answers at its next step, or wants to enter, or has place k of the tracker
pub data Stage : Type 0 where
  Ready : Verdict → Stage
  Entering : Stage
  In : (k : ℕ) (step : Step) → Stage

-- the blocks that the holds of head and tail gave
pub record Pads : Type 0 where
  pub head : List ℕ
  pub tail : List ℕ

-- a request as it stands; `dropped` where its session has left
pub record Req : Type 0 where
  pub client : Client
  pub dropped : Bool
  pub pads : Pads
  pub stage : Stage

abbrev pub pad : Pads → Side → List ℕ
pad p Head = p.head
pad p Tail = p.tail

abbrev pub keep : Pads → Side → List ℕ → Pads
keep p Head bytes = record p { head = bytes }
keep p Tail bytes = record p { tail = bytes }

-- a READ takes a buffer for its bytes, and a WRITE has its bytes in one
abbrev pub takes_body : Kind → Bool
takes_body kind = is_read kind || brings_bytes kind

abbrev pub wants_body : Ask → Bool
wants_body a = not (a.length == 0) && takes_body a.kind

-- it works in blocks of memory: it reads or stores some bytes
abbrev pub wants_buffers : Ask → Bool
wants_buffers a = not (a.length == 0) && (is_read a.kind || stores_bytes a.kind)

-- none of these kinds, a flag that doesn't fit the kind, or a READ that is too long
abbrev pub form_error : Ask → Bool
form_error a = not (is_known a.kind) || not a.flags_fit || (is_read a.kind && nat_lt max_payload a.length)

-- the request as it was made
abbrev pub new_request : Client → Req
new_request c = record {
  client = c;
  dropped = false;
  pads = record { head = []; tail = [] };
  stage =
      if form_error c.ask then Ready (Refused Inval)
      else if c.buffered then Entering
      else Ready (Refused NoMem);
}

-- the answer of a request that did what it had to do
abbrev pub success : Client → List ℕ → Verdict
success c got = if reads c then Got got else Fine

-- A request that has its way: the first rule that refuses it; a FLUSH syncs, whatever places it names; nothing is to
-- be done to no place, nor by a TRIM; else List.
unfoldable pub routed : Client → Step
routed c =
    if wants_writable c.ask.kind && not c.route.writable then ToEnd (Refused Perm)
    else if is_flush c.ask.kind then ToSync 0
    else if nat_lt c.route.size (c.ask.offset + c.ask.length) then ToEnd (Refused (if writes c then NoSpace else Inval))
    else if c.ask.length == 0 || is_trim c.ask.kind then ToEnd (success c [])
    else ToList

-- a READ loads its blocks; a write holds its head and its tail, and then stores its blocks
unfoldable pub held : ℕ → Client → Side → Step
held A c Head = if has A c Tail then ToHold Tail else ToStore (edge A c Head)
held A c Tail = ToStore (edge A c Head)

unfoldable pub started : ℕ → Client → Step
started A c =
    if reads c then ToLoad (edge A c Head) []
    else if has A c Head then ToHold Head
    else held A c Head

-- the covered bytes of a block
abbrev pub piece : ℕ → Client → ℕ → List ℕ → List ℕ
piece A c b bytes =
    let from = max (span_of c).lo (b * A) in
    part bytes (from - b * A) (min (span_of c).hi (b * A + A) - from)

unfoldable pub loaded : ℕ → Client → ℕ → List ℕ → List ℕ → Step
loaded A c b got bytes =
    if b == edge A c Tail then ToEnd (Got (got ++ piece A c b bytes))
    else ToLoad (b + 1) (got ++ piece A c b bytes)

-- stripe s has a block from `first` to `final`: the runs of sixteen blocks go round the eight stripes
abbrev pub touches : ℕ → ℕ → ℕ → Bool
touches first final s = nat_le ((s + 8 - stripe_of first) % 8) (final / 16 - first / 16)

-- the stripes that a request syncs: a FLUSH all, a write with FUA those of its blocks
unfoldable pub syncs : ℕ → Client → ℕ → Bool
syncs A c s = is_flush c.ask.kind || touches (edge A c Head) (edge A c Tail) s

-- of the last n of the eight stripes the first that the request syncs, or its end
unfoldable pub to_sync : ℕ → Client → ℕ → Step
to_sync A c zero = ToEnd Fine
to_sync A c (suc n) = if syncs A c (7 - n) then ToSync (7 - n) else to_sync A c n

-- behind its last block a write with FUA syncs
unfoldable pub stored : ℕ → Client → ℕ → Step
stored A c b =
    if b == edge A c Tail then (if c.ask.fua then to_sync A c 8 else ToEnd Fine)
    else ToStore (b + 1)

unfoldable pub synced : ℕ → Client → ℕ → Step
synced A c s = to_sync A c (7 - s)

-- after a fault the hold that is still open is given up
unfoldable pub hold_failed : ℕ → Client → Side → Step
hold_failed A c Head = ToEnd (Refused Io)
hold_failed A c Tail = if has A c Head then ToFree Head else ToEnd (Refused Io)

unfoldable pub store_failed : ℕ → Client → ℕ → Step
store_failed A c b = if has A c Tail && not (b == edge A c Tail) then ToFree Tail else ToEnd (Refused Io)

-- what block b gets at a place: the body's byte where the request covers it, else the kept pad's
abbrev pub merged_at : ℕ → Client → Pads → ℕ → ℕ → ℕ
merged_at A c p b i =
    if covers c (b * A + i) then body_at c (b * A + i)
    else get_or (pad p (if b == edge A c Head then Head else Tail)) i 0

-- the verdict that a request answers with
abbrev pub verdict : Bool → Verdict → Verdict
verdict dropped v = if dropped then Dropped else v

-- The session has left: a request that hasn't entered is dropped, one without a span ends, a FLUSH too, else it
-- runs on.
abbrev pub abandoned_step : Client → Step → Step
abandoned_step c ToRoute = ToEnd Dropped
abandoned_step c ToList = ToEnd Dropped
abandoned_step c (ToSync s) = if is_flush c.ask.kind then ToEnd Dropped else ToSync s
abandoned_step c step = step

abbrev pub abandoned : Client → Stage → Stage
abandoned c (In k step) = In k (abandoned_step c step)
abandoned c _ = Ready Dropped

abbrev pub abandon : Req → Req
abandon q = record q { dropped = true; stage = abandoned q.client q.stage }
