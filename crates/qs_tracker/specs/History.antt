-- Histories of a tracker.
use Rattle.std.specs.Prelude.{◌≡◌, ◌↔◌, ℕ, ◌-◌, ◌^◌, ◌<◌, ◌≤◌, List, true}
use Rattle.qs_part.specs.declared.tracker.TrackerOp.{TrackerOp}
use Rattle.qs_part.specs.declared.tracker.TrackerReply.{TrackerReply}
use Rattle.qs_part.specs.Histories.{Call, lawful, StandsFor}
use Rattle.qs_tracker.specs.declared.seat.Listing.{Listing}
use Rattle.qs_tracker.specs.declared.seat.Seat.{Seat}
use Rattle.qs_tracker.specs.declared.seat.Seat.TheVariants.{Vacant, Present, Has}
use Rattle.qs_tracker.specs.Seats.{seat_at}
use Rattle.qs_tracker.specs.Table.{TrackerValue, fresh, Fits, answers}

-- a call that may be: the operation fits and the answer may come; nothing is fixed about a tracker
abbrev pub lawful_call : TrackerValue → TrackerOp → TrackerReply → TrackerValue → Type 0
lawful_call = lawful (λ (v : TrackerValue). tt) (λ (fixed : Unit {0}) op. Fits op) answers

-- a tracker stands for a history of a fresh one, whose numbers begin at first
abbrev pub StandsForFresh : ℕ → List (Call TrackerOp TrackerReply) → TrackerValue → Type 0
StandsForFresh first cs v = StandsFor lawful_call (fresh first) cs v

-- this span is listed at place k
abbrev pub IsListed : TrackerValue → ℕ → Listing → Type 0
IsListed v k l = seat_at v.seats k ≡ Has l

-- this span is listed at place k, and its request goes
abbrev pub IsListedStarted : TrackerValue → ℕ → Listing → Type 0
IsListedStarted v k l = IsListed v k l × (l.started ≡ true)

-- of all listed spans the one at place k has the lowest number
pub record IsLowest (v : TrackerValue) (k : ℕ) (l : Listing) : Type 0 where
  pub listed : IsListed v k l
  pub lowest : (j : ℕ) (m : Listing) → IsListed v j m → l.number ≤ m.number

-- the same place, but for the number of its span
abbrev pub SameSeat : Seat → Seat → Type 0
SameSeat Vacant Vacant = Unit {0}
SameSeat Present Present = Unit {0}
SameSeat (Has l) (Has m) = m ≡ record l { number = m.number }
SameSeat _ _ = ⊥

-- the listed spans have been numbered anew, 0, 1, 2 and so on, in their order
pub record Renumbered (old new : TrackerValue) : Type 0 where
  pub quiesced : new.quiesced ≡ old.quiesced
  pub same : (k : ℕ) → SameSeat (seat_at old.seats k) (seat_at new.seats k)
  pub order : (j k : ℕ) (l m p n : Listing) → IsListed old j l → IsListed old k m → IsListed new j p →
      IsListed new k n →
      l.number < m.number ↔ p.number < n.number
  pub below : (k : ℕ) (l : Listing) → IsListed new k l → l.number < new.number
  pub dense : (n : ℕ) → n < new.number → (k : ℕ) × (l : Listing) × (IsListed new k l × (l.number ≡ n))
  pub room : new.number < 2 ^ 64 - 1
