-- What a stream in memory means beyond its bytes: which of its calls fail, and how its reads are cut.
use Rattle.std.specs.Prelude.{ℕ, ◌+◌, ◌-◌, ◌^◌, min, max, List, ◌++◌, length, take, drop, slice_index_or, Result, Ok, Err}

-- one more, up to the last value of 64 bits
abbrev pub next_count : ℕ → ℕ
next_count n = min (n + 1) (2 ^ 64 - 1)

-- the numbers of the calls that fail, how many calls were made, which is the next one's number, and how many failed
pub record Calls : Type 0 where
  pub failing : List ℕ
  pub made : ℕ
  pub faults : ℕ

-- the counts behind a call that went well, and behind one that failed
abbrev pub made_well : Calls → Calls
made_well calls = record calls { made = next_count calls.made }

abbrev pub made_badly : Calls → Calls
made_badly calls = record calls { made = next_count calls.made; faults = next_count calls.faults }

-- what is still to be read, the most bytes that each read gives by its number, and the calls
pub record Incoming : Type 0 where
  pub left : List ℕ
  pub cuts : List ℕ
  pub calls : Calls

-- the most bytes that the next read gives: its cut, at least one; behind the last cut no limit
abbrev pub cut_of : Incoming → ℕ
cut_of stream = max 1 (slice_index_or stream.cuts stream.calls.made (2 ^ 64 - 1))

-- the stream behind a read with this answer
abbrev pub after_read : {E : Type 0} → Incoming → Result ℕ E → Incoming
after_read stream (Ok n) = record stream { left = drop n stream.left; calls = made_well stream.calls }
after_read stream (Err e) = record stream { calls = made_badly stream.calls }

-- what was written, how many bytes that may be in all, and the calls
pub record Outgoing : Type 0 where
  pub sent : List ℕ
  pub room : ℕ
  pub calls : Calls

-- how many more bytes may be written
abbrev pub room_left : Outgoing → ℕ
room_left stream = stream.room - length stream.sent

-- the stream behind a write of a piece with this answer
abbrev pub after_write : {E : Type 0} → Outgoing → List ℕ → Result ℕ E → Outgoing
after_write stream piece (Ok n) = record stream { sent = stream.sent ++ take n piece; calls = made_well stream.calls }
after_write stream piece (Err e) = record stream { calls = made_badly stream.calls }
