-- Names of sessions in a script.
use Rattle.std.specs.Prelude.{ℕ, ◌≤◌, ◌⊎◌, List, [], ◌∷◌, length, All}
use Rattle.std.specs.Char.{IsAsciiDigit, IsAsciiLowercase, IsAsciiUppercase}

abbrev pub IsSmallOrDigit : ℕ → Type 0
IsSmallOrDigit byte = IsAsciiLowercase byte ⊎ IsAsciiDigit byte

-- one capital letter, and up to 7 small letters or digits
abbrev pub IsSessionName : List ℕ → Type 0
IsSessionName [] = ⊥
IsSessionName (first ∷ others) = (length others ≤ 7) × IsAsciiUppercase first × All IsSmallOrDigit others
