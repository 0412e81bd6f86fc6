-- Numbers that follow from a seed, and those that a round draws.
use Rattle.std.specs.Prelude.{ℕ, zero, suc, ◌+◌, ◌*◌, ◌-◌, ◌/◌, ◌%◌, ◌^◌}
use Rattle.qs_generate.specs.declared.draws.RoundDraws.{RoundDraws}

-- the state after so many draws from a state
unfoldable pub state_after : ℕ → ℕ → ℕ
state_after x zero = x
state_after x (suc n) = (state_after x n * 6364136223846793005 + 1442695040888963407) % 2 ^ 64

-- what the nth draw from a state gives, counted from 1, below a bound
abbrev pub drawn : ℕ → ℕ → ℕ → ℕ
drawn x n bound = state_after x n / 2 ^ 33 % bound

-- what a round draws over an image of so many bytes, in this order
abbrev pub round_draws : ℕ → ℕ → RoundDraws
round_draws size x = record {
  session = drawn x 1 4;
  kind = drawn x 2 8;
  offset = drawn x 3 (size - 2048);
  length = 1 + drawn x 4 2048;
  byte = drawn x 5 256;
  steps = 1 + drawn x 6 4;
}
