-- The operations of the tracker: which answer may come, and what it leaves.
use Rattle.std.specs.Prelude.{◌≡◌, ◌≢◌, ℕ, ◌+◌, ◌-◌, ◌^◌, ◌%◌, ◌<◌, nat_lt, Bool, true, false, if◌then◌else◌, List, count_by, position, replicate, Some, None}
use Rattle.std.specs.List.{slice_set}
use Rattle.qs_bytes.specs.Spans.{Places}
use Rattle.qs_part.specs.declared.tracker.TrackerOp.{TrackerOp}
use Rattle.qs_part.specs.declared.tracker.TrackerOp.TheVariants.{Enter, List as ToList, Start, End, Quiesce, Drained, Resume}
use Rattle.qs_part.specs.declared.tracker.TrackerReply.{TrackerReply}
use Rattle.qs_part.specs.declared.tracker.TrackerReply.TheVariants.{Entered, Quiesced, Full, Listed, Strange, Started, NotYet, Ended, Stopped, Already, Empty, InFlight, Resumed}
use Rattle.qs_tracker.specs.declared.seat.Seat.{Seat}
use Rattle.qs_tracker.specs.declared.seat.Seat.TheVariants.{Vacant, Present, Has}
use Rattle.qs_tracker.specs.Seats.{seat_at, is_vacant, is_in, is_listed, IsClear, IsLowestBefore, renumbered}

-- the tracker: its 256 places, the next number, and whether a quiesce stands
pub record TrackerValue : Type 0 where
  pub seats : List Seat
  pub number : ℕ
  pub quiesced : Bool

-- nobody is in, and numbers begin at n
abbrev pub fresh : ℕ → TrackerValue
fresh n = record { seats = replicate 256 Vacant; number = n; quiesced = false }

-- where the next number would be 2^64 - 1 the listed spans are numbered anew
abbrev pub numbered : TrackerValue → TrackerValue
numbered v =
    if nat_lt v.number (2 ^ 64 - 1) then v
    else record { seats = renumbered v.seats; number = count_by is_listed v.seats; quiesced = v.quiesced }

-- a span has a place, and both its ends are multiples of 512
abbrev pub Fits : TrackerOp → Type 0
Fits (ToList k span serial) = (span.lo < span.hi) × (span.lo % 512 ≡ 0) × (span.hi % 512 ≡ 0)
Fits _ = Unit {0}

-- place k is now so
abbrev pub placed : TrackerValue → ℕ → Seat → TrackerValue
placed v k seat = record { seats = slice_set v.seats k seat; number = v.number; quiesced = v.quiesced }

-- the span at place k gets the next number
abbrev pub listed : TrackerValue → ℕ → Places → Bool → TrackerValue
listed v k span serial = record {
  seats = slice_set v.seats k (Has (record { span = span; serial = serial; number = v.number; started = false }));
  number = v.number + 1;
  quiesced = v.quiesced;
}

-- the request at a place goes
abbrev pub going : Seat → Seat
going (Has l) = Has (record l { started = true })
going seat = seat

-- what an answer leaves
abbrev pub after : TrackerValue → TrackerOp → TrackerReply → TrackerValue
after v Enter (Entered k) = placed v k Present
after v (ToList k span serial) (Listed n) = listed (numbered v) k span serial
after v (Start k) Started = placed v k (going (seat_at v.seats k))
after v (End k) Ended = placed v k Vacant
after v Quiesce Stopped = record { seats = v.seats; number = v.number; quiesced = true }
after v Resume Resumed = record { seats = v.seats; number = v.number; quiesced = false }
after v _ _ = v

-- the answers to a request that asks to start, by its place
abbrev pub MayStart : List Seat → Seat → TrackerReply → Type 0
MayStart seats (Has own) Started = IsClear seats own
MayStart seats (Has own) (NotYet n) = IsLowestBefore seats own n
MayStart seats (Has own) _ = ⊥
MayStart seats _ Strange = Unit {0}
MayStart seats _ _ = ⊥

-- the answers to an operation
abbrev pub May : TrackerValue → TrackerOp → TrackerReply → Type 0
May v Enter (Entered k) = (v.quiesced ≡ false) × (position is_vacant v.seats ≡ Some k)
May v Enter Quiesced = v.quiesced ≡ true
May v Enter Full = (v.quiesced ≡ false) × (position is_vacant v.seats ≡ None)
May v (ToList k span serial) (Listed n) = (seat_at v.seats k ≡ Present) × (n ≡ (numbered v).number)
May v (ToList k span serial) Strange = seat_at v.seats k ≢ Present
May v (Start k) reply = MayStart v.seats (seat_at v.seats k) reply
May v (End k) Ended = seat_at v.seats k ≢ Vacant
May v (End k) Strange = seat_at v.seats k ≡ Vacant
May v Quiesce Stopped = v.quiesced ≡ false
May v Quiesce Already = v.quiesced ≡ true
May v Drained Empty = position is_in v.seats ≡ None
May v Drained (InFlight k) = position is_in v.seats ≡ Some k
May v Resume Resumed = v.quiesced ≡ true
May v Resume Strange = v.quiesced ≡ false
May v _ _ = ⊥

-- the tracker answers an operation, and is then what the answer leaves
abbrev pub answers : TrackerValue → TrackerOp → TrackerReply → TrackerValue → Type 0
answers old op reply new = May old op reply × (new ≡ after old op reply)
