-- How an image is cut.
use Rattle.std.specs.Prelude.{ℕ, ◌/◌, ◌%◌}

-- the stripe of a block: every eighth run of 16 blocks
abbrev pub stripe_of : ℕ → ℕ
stripe_of b = (b / 16) % 8
