-- The body that an Ask brings.
use Rattle.std.specs.Prelude.{ℕ, ◌==◌, List, length, Option, Some, None, if◌then◌else◌}

-- a body that isn't of the length that is asked for counts as none
abbrev pub fitted : Option (List ℕ) → ℕ → Option (List ℕ)
fitted None n = None
fitted (Some body) n = if length body == n then Some body else None
