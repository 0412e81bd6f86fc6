-- The blocks that a span covers in part, and what is merged into them.
use Rattle.std.specs.Prelude.{ℕ, ◌+◌, ◌-◌, ◌*◌, ◌/◌, ◌≤◌, nat_le, nat_lt, ◌&&◌, if◌then◌else◌, List}
use Rattle.std.specs.List.{slice_index_or}
use Rattle.qs_bytes.specs.Spans.{Places}

-- the blocks of the first place of a span and of the last one; a block is A bytes
abbrev pub first_block : Places → ℕ → ℕ
first_block s A = s.lo / A

abbrev pub last_block : Places → ℕ → ℕ
last_block s A = (s.hi - 1) / A

-- the span has all places of block b
abbrev pub CoversBlock : Places → ℕ → ℕ → Type 0
CoversBlock s A b = (s.lo ≤ b * A) × (b * A + A ≤ s.hi)

-- what place x holds once a span's bytes are merged: the span's byte, or the one that was there
abbrev pub merged_at : Places → List ℕ → ℕ → ℕ → ℕ
merged_at s bytes x old = if nat_le s.lo x && nat_lt x s.hi then slice_index_or bytes (x - s.lo) 0 else old
