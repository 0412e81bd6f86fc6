-- Numbers in a list.
use Rattle.std.specs.Prelude.{◌≡◌, ℕ, ◌<◌, ◌⊎◌, List, [], ◌∷◌}

-- a number is in a list
abbrev pub IsAmong : ℕ → List ℕ → Type 0
IsAmong s [] = ⊥
IsAmong s (x ∷ xs) = (x ≡ s) ⊎ IsAmong s xs

-- a list without repetition
abbrev pub IsOnce : List ℕ → Type 0
IsOnce [] = Unit {0}
IsOnce (x ∷ xs) = (IsAmong x xs → ⊥) × IsOnce xs

-- a list in rising order
abbrev pub IsRising : List ℕ → Type 0
IsRising [] = Unit {0}
IsRising (x ∷ xs) = ((y : ℕ) → IsAmong y xs → x < y) × IsRising xs
