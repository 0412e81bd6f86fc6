-- Counts of faults.
use Rattle.std.specs.Prelude.{◌≡◌, ℕ, Result, Ok, Err}
use Rattle.qs_outside.specs.Faults.{Rose}

-- what a count does where nothing failed
abbrev pub Stays : ℕ → ℕ → Type 0
Stays before now = now ≡ before

-- a call that failed raised its count
abbrev pub Counts : {T E : Type 0} → ℕ → ℕ → Result T E → Type 0
Counts before now (Ok x) = Stays before now
Counts before now (Err e) = Rose before now
