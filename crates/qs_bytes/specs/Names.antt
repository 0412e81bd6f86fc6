-- Names of exports, nodes and groups.
use Rattle.std.specs.Prelude.{◌≡◌, ℕ, ◌<◌, ◌≤◌, ◌⊎◌, List, [], ◌∷◌, length, All}
use Rattle.std.specs.Char.{IsAsciiAlphabetic, IsAsciiAlphanumeric}
use Rattle.std.specs.Str.{IsUtf8}

-- what a name may be: at most 63 bytes of UTF-8
abbrev pub IsName : List ℕ → Type 0
IsName bytes = (length bytes ≤ 63) × IsUtf8 bytes

-- a letter, a digit, a minus sign, a low line or a dot
abbrev pub IsIdByte : ℕ → Type 0
IsIdByte byte = IsAsciiAlphanumeric byte ⊎ (byte ≡ 45) ⊎ (byte ≡ 95) ⊎ (byte ≡ 46)

-- an id: 1 to 31 bytes, a letter first
abbrev pub IsId : List ℕ → Type 0
IsId [] = ⊥
IsId (first ∷ others) = (length others < 31) × IsAsciiAlphabetic first × All IsIdByte others
