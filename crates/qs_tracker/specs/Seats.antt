-- The places of the tracker, and which listed span goes before another.
use Rattle.std.specs.Prelude.{◌≡◌, ℕ, ◌<◌, ◌≤◌, ◌⊎◌, nat_lt, min, Bool, true, false, not, List, map, count_by, Option, Some, None, IsTrue}
use Rattle.std.specs.List.{slice_index_or}
use Rattle.qs_bytes.specs.Spans.{Overlap}
use Rattle.qs_tracker.specs.declared.seat.Listing.{Listing}
use Rattle.qs_tracker.specs.declared.seat.Seat.{Seat}
use Rattle.qs_tracker.specs.declared.seat.Seat.TheVariants.{Vacant, Has}

-- two listed spans conflict: they overlap, and one of them is serialising (QEMU block/io.c)
abbrev pub Conflict : Listing → Listing → Type 0
Conflict l m = Overlap l.span m.span × (IsTrue l.serial ⊎ IsTrue m.serial)

-- the place of a number; there is nobody at a number that no place has
abbrev pub seat_at : List Seat → ℕ → Seat
seat_at seats k = slice_index_or seats k Vacant

-- nobody is at place n or behind it
abbrev pub VacantFrom : ℕ → List Seat → Type 0
VacantFrom n seats = (k : ℕ) → n ≤ k → seat_at seats k ≡ Vacant

abbrev pub is_vacant : Seat → Bool
is_vacant Vacant = true
is_vacant _ = false

abbrev pub is_in : Seat → Bool
is_in seat = not (is_vacant seat)

abbrev pub is_listed : Seat → Bool
is_listed (Has l) = true
is_listed _ = false

abbrev pub is_listed_below : ℕ → Seat → Bool
is_listed_below n (Has l) = nat_lt l.number n
is_listed_below n _ = false

-- the number of the span that is listed at a place
abbrev pub seat_number : Seat → ℕ
seat_number (Has l) = l.number
seat_number _ = 0

-- a span is listed here that this one has to wait for: it has a lower number, and they conflict
abbrev pub Precedes : Seat → Listing → Type 0
Precedes (Has l) own = (l.number < own.number) × Conflict l own
Precedes _ own = ⊥

-- no listed span of a lower number conflicts with this one
abbrev pub IsClear : List Seat → Listing → Type 0
IsClear seats own = (k : ℕ) → Precedes (seat_at seats k) own → ⊥

-- the lowest number of a listed span that this one has to wait for
pub record IsLowestBefore (seats : List Seat) (own : Listing) (n : ℕ) : Type 0 where
  pub at : ℕ
  pub precedes : Precedes (seat_at seats at) own
  pub number : seat_number (seat_at seats at) ≡ n
  pub lowest : (k : ℕ) → Precedes (seat_at seats k) own → n ≤ seat_number (seat_at seats k)

-- the lower of two numbers, or the one that there is
abbrev pub lower_of : Option ℕ → Option ℕ → Option ℕ
lower_of None o = o
lower_of (Some n) None = Some n
lower_of (Some n) (Some m) = Some (min n m)

-- how many of the listed spans have a number below n
abbrev pub rank : List Seat → ℕ → ℕ
rank seats n = count_by (is_listed_below n) seats

-- the same place with its span's new number, which is its rank
abbrev pub ranked : List Seat → Seat → Seat
ranked seats (Has l) = Has (record l { number = rank seats l.number })
ranked seats seat = seat

-- the listed spans numbered 0, 1, 2 and so on, in their order
abbrev pub renumbered : List Seat → List Seat
renumbered seats = map (ranked seats) seats
