-- The places in front of a vacant end say all that the whole list says.
use Rattle.std.proofs.Common.{◌≡◌, ℕ, ◌+◌, ◌<◌, ◌≤◌, zero, suc, List, [], ◌∷◌, ◌++◌, length, take, drop, replicate, cond, Option, Some, None, refl, sym, ◌∙◌, ap, subst, arith, inl, inr}
use Rattle.std.specs.Prelude.{MatchOption, position}
use Rattle.std.specs.List.{slice_set, position_from}
use Rattle.std.proofs.lemmas.Bool.{cases_lt}
use Rattle.std.proofs.lemmas.List.{get_or-take, get_or_past, length-take-le, length-map}
use Rattle.std.proofs.Math.Seq.{take-append_seam}
use Rattle.std.proofs.lemmas.Iterator.Adapters.{position_from-zero}
use Rattle.qs_tracker.specs.declared.seat.Listing.{Listing}
use Rattle.qs_tracker.specs.declared.seat.Seat.{Seat}
use Rattle.qs_tracker.specs.declared.seat.Seat.TheVariants.{Vacant}
use Rattle.qs_tracker.specs.Seats.{seat_at, is_in, seat_number, ranked, renumbered, Precedes, IsClear, IsLowestBefore, VacantFrom}
use Rattle.qs_tracker.proofs.Seats.{nobody, at_set}
use Rattle.qs_tracker.proofs.Sound.{ranked_at}

-- a place of the front is that of the whole, also behind the front
pub front : (n : ℕ) (seats : List Seat) → n ≤ length seats → VacantFrom n seats → (k : ℕ) → seat_at (take n seats) k ≡ seat_at seats k
front n seats within rest k =
    elim (cases_lt k n) [
      | inl before ↦ get_or-take n seats k Vacant before
      | inr past ↦ get_or_past (take n seats) k Vacant (omega (arith, length-take-le n seats within, past)) ∙ sym (rest k past)
    ]

-- the first place of the front that somebody has is that of the whole
from_front : (i n : ℕ) (seats : List Seat) → VacantFrom n seats → position_from is_in i (take n seats) ≡ position_from is_in i seats
from_front i zero [] rest = refl
from_front i (suc n) [] rest = refl
from_front i zero (x ∷ xs) rest =
    let here : x ≡ Vacant = rest 0 (omega arith) in
    rw here (from_front (i + 1) zero xs (λ k h. rest (suc k) (omega arith)))
from_front i (suc n) (x ∷ xs) rest =
    ap (λ o. cond (is_in x) (Some i) o) (from_front (i + 1) n xs (λ k h. rest (suc k) (omega (arith, h))))

pub first_in_front : (n : ℕ) (seats read : List Seat) → read ≡ seats → VacantFrom n seats → position is_in seats ≡ position is_in (take n read)
first_in_front n seats read is rest =
    rw is (position_from-zero is_in seats ∙ sym (from_front 0 n seats rest) ∙ sym (position_from-zero is_in (take n seats)))

-- what a span has to wait for stands in the front
pub before_front : (n : ℕ) (seats read : List Seat) (own : Listing) (o : Option ℕ) → read ≡ seats → n ≤ length seats → VacantFrom n seats →
    MatchOption o (IsClear (take n read) own) (IsLowestBefore (take n read) own) → MatchOption o (IsClear seats own) (IsLowestBefore seats own)
before_front n seats read own o is within rest =
    subst (λ (xs : List Seat). MatchOption o (IsClear (take n xs) own) (IsLowestBefore (take n xs) own) → MatchOption o (IsClear seats own) (IsLowestBefore seats own))
    (sym is) (go o)
  where
    same : (k : ℕ) → seat_at (take n seats) k ≡ seat_at seats k
    same = front n seats within rest

    up : (k : ℕ) → Precedes (seat_at (take n seats) k) own → Precedes (seat_at seats k) own
    up k = subst (λ (s : Seat). Precedes s own) (same k)

    down : (k : ℕ) → Precedes (seat_at seats k) own → Precedes (seat_at (take n seats) k) own
    down k = subst (λ (s : Seat). Precedes s own) (sym (same k))

    go : (p : Option ℕ) → MatchOption p (IsClear (take n seats) own) (IsLowestBefore (take n seats) own) → MatchOption p (IsClear seats own) (IsLowestBefore seats own)
    go None clear = λ k p. clear k (down k p)
    go (Some m) low = record {
      at = low.at;
      precedes = up low.at low.precedes;
      number = ap seat_number (sym (same low.at)) ∙ low.number;
      lowest = λ k p. subst (λ (s : Seat). m ≤ seat_number s) (same k) (low.lowest k (down k p));
    }

-- nobody is in a fresh tracker
pub all_vacant : (n : ℕ) → VacantFrom 0 (replicate n Vacant)
all_vacant n k h = nobody n k

-- a place that is written lies below the end
pub vacant_set : (n m k : ℕ) (seats : List Seat) (s : Seat) → VacantFrom n seats → n ≤ m → k < m → VacantFrom m (slice_set seats k s)
vacant_set n m k seats s rest more below j h =
    at_set (λ (x : Seat). x ≡ Vacant) seats k s j (rest j (omega (arith, more, h))) (λ same. absurd (omega (arith, same, below, h)))

-- a place that is left
pub vacant_left : (n k : ℕ) (seats : List Seat) → VacantFrom n seats → VacantFrom n (slice_set seats k Vacant)
vacant_left n k seats rest j h = at_set (λ (x : Seat). x ≡ Vacant) seats k Vacant j (rest j h) (λ same. refl)

-- the vacant end of the front goes on behind it
pub vacant_front : (m n : ℕ) (seats : List Seat) → n ≤ length seats → VacantFrom n seats → VacantFrom m (take n seats) → VacantFrom m seats
vacant_front m n seats within rest here k h = sym (front n seats within rest k) ∙ here k h

pub vacant_renumbered : (n : ℕ) (seats : List Seat) → VacantFrom n seats → VacantFrom n (renumbered seats)
vacant_renumbered n seats rest k h = ranked_at seats k ∙ ap (ranked seats) (rest k h)

-- a list that was numbered anew behind a borrow, where its owner finds it
pub written_back : (n : ℕ) (seats read new : List Seat) → read ≡ seats → length read ≡ n → new ≡ renumbered read →
    take n (new ++ drop (length new) seats) ≡ renumbered seats
written_back n seats read new is long anew =
    let same : new ≡ renumbered seats = anew ∙ ap renumbered is in
    let size : n ≡ length new = sym long ∙ ap length is ∙ sym (length-map seats (ranked seats)) ∙ ap length (sym same) in
    ap (λ i. take i (new ++ drop (length new) seats)) size ∙ take-append_seam new (drop (length new) seats) ∙ same
