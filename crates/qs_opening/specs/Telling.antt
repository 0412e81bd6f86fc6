-- What the core tells for the answer to an option, and what becomes of it.
use Rattle.std.specs.Prelude.{◌≡◌, ℕ, Bool, List, Option, None, Some}
use Rattle.qs_outside.specs.Blocks.{Seen}
use Rattle.qs_part.specs.declared.graph.ExportInfo.{ExportInfo}
use Rattle.qs_graph.specs.Readings.{info_of, names_of}
use Rattle.qs_graph.specs.Table.{GraphValue}
use Rattle.qs_nbd_handshake.specs.declared.event.Told.{Told}
use Rattle.qs_nbd_handshake.specs.declared.event.Told.TheVariants as told
use Rattle.qs_nbd_handshake.specs.declared.event.Want.{Want}
use Rattle.qs_nbd_handshake.specs.declared.event.Want.TheVariants as want
use Rattle.qs_world.specs.Values.{WorldValue}
use Rattle.qs_single.specs.Resting.{Attaches}

-- what is told of an export, if there is one
abbrev pub told_info : Option ExportInfo → Told
told_info (Some info) = told.Info (record { size = info.size; writable = info.writable })
told_info None = told.Missing

-- what is told of a name; bytes that are no name name no export
abbrev pub told_name : GraphValue → Option (List ℕ) → Told
told_name graph (Some name) = told_info (info_of graph name)
told_name graph None = told.Missing

-- what is told to one who wants this
abbrev pub graph_told : GraphValue → Want → Told
graph_told graph want.Nothing = told.Nothing
graph_told graph (want.Find name) = told_name graph name
graph_told graph (want.Attach name) = told_name graph name
graph_told graph want.Names = told.Names (names_of graph)

-- the session was attached to this export by a name, or nothing changed where there is none
abbrev pub JoinsAt : {D : Type 0} → (D → Seen) → ℕ → Bool → WorldValue D → List ℕ → Option ExportInfo → WorldValue D →
    Type 0
JoinsAt seen session writable old name (Some known) new = (info : ExportInfo)
    × Attaches seen session writable old name info new
JoinsAt seen session writable old name None new = new ≡ old

abbrev pub Joins : {D : Type 0} → (D → Seen) → ℕ → Bool → WorldValue D → Option (List ℕ) → WorldValue D → Type 0
Joins seen session writable old (Some name) new = JoinsAt seen session writable old name (info_of old.graph name) new
Joins seen session writable old None new = new ≡ old

-- what becomes of the core: one who wants to attach is attached, and for others nothing changes
abbrev pub WantChanges : {D : Type 0} → (D → Seen) → ℕ → Bool → WorldValue D → Want → WorldValue D → Type 0
WantChanges seen session writable old (want.Attach name) new = Joins seen session writable old name new
WantChanges seen session writable old other new = new ≡ old
