-- The history of one byte, and when it is one of a single cell.
use Rattle.std.specs.Prelude.{◌≡◌, ℕ, Bool, true, ◌==◌, if◌then◌else◌, List, [], ◌∷◌, take, Some, slice_get}
use Rattle.qs_cells.specs.declared.cell.CellEntry.{CellEntry}
use Rattle.qs_cells.specs.declared.cell.CellEntry.TheVariants.{Read, Write, Maybe, Crash}

-- the value of a byte after one entry
abbrev pub value_then : ℕ → CellEntry → ℕ
value_then value (Read r v) = value
value_then value (Write r v) = v
value_then value (Maybe r v took) = if took then v else value
value_then value (Crash v) = v

-- the value of the last write, crash or refused write that took, or the first value
abbrev pub value_after : ℕ → List CellEntry → ℕ
value_after first [] = first
value_after first (entry ∷ entries) = value_after (value_then first entry) entries

-- a read has the value of the byte
abbrev pub fits : ℕ → CellEntry → Bool
fits value (Read r v) = v == value
fits value _ = true

-- each read has the value that the entries before it leave
abbrev pub Legal : ℕ → List CellEntry → Type 0
Legal first list = (i r v : ℕ) → slice_get list i ≡ Some (Read r v) → v ≡ value_after first (take i list)
