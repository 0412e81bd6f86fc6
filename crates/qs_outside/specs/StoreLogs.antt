-- Room for the stores that a disk keeps.
use Rattle.std.specs.Prelude.{◌≡◌, ℕ, ◌*◌, ◌≤◌}

-- there is memory for all that may be kept, and as many bytes are kept as blocks have
pub record HasRoom (align room blocks blocks_at_most bytes bytes_at_most : ℕ) : Type 0 where
  pub within : blocks ≤ room
  pub blocks_fit : room ≤ blocks_at_most
  pub bytes_fit : room * align ≤ bytes_at_most
  pub whole : bytes ≡ blocks * align
