-- Spans of places, as requests and the blocks that they reach have them.
use Rattle.std.specs.Prelude.{ℕ, ◌*◌, ◌/◌, ◌<◌, ◌≤◌}
use Rattle.std.specs.Int.{div_ceil}

-- the places from lo up to and without hi
pub record Places : Type 0 where
  pub lo : ℕ
  pub hi : ℕ

-- a span has a place
abbrev pub Covers : Places → ℕ → Type 0
Covers s x = (s.lo ≤ x) × (x < s.hi)

-- some place is in both
abbrev pub Overlap : Places → Places → Type 0
Overlap a b = (x : ℕ) × (Covers a x × Covers b x)

-- the greatest multiple of align that isn't above n, and the least that isn't below it
abbrev pub rounded_down : ℕ → ℕ → ℕ
rounded_down n align = n / align * align

abbrev pub rounded_up : ℕ → ℕ → ℕ
rounded_up n align = div_ceil n align * align

-- the whole blocks that a span reaches
abbrev pub aligned_out : Places → ℕ → Places
aligned_out s align = record { lo = rounded_down s.lo align; hi = rounded_up s.hi align }
