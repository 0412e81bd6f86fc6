-- The tally: a part that counts its calls.
use Rattle.std.specs.Prelude.{◌≡◌, ℕ, ◌+◌, ◌%◌, ◌^◌}
use Rattle.qs_turn_uses.specs.declared.tally.Tally.{Tally}

-- the count rises by one, and is the answer; nothing else changes
abbrev pub counts : Tally → Unit {0} → ℕ → Tally → Type 0
counts s _ r t = (t ≡ record s { count = (s.count + 1) % 2 ^ 64 }) × (r ≡ t.count)

-- nothing is fixed about it that decides what fits, and the one operation always fits
abbrev pub tally_fixed : Tally → Unit {0}
tally_fixed _ = tt

abbrev pub tally_fits : Unit {0} → Unit {0} → Type 0
tally_fits _ _ = Unit {0}
