-- Which names a session can begin by.
use Rattle.std.specs.Prelude.{◌≡◌, ℕ, List, Some}
use Rattle.qs_part.specs.declared.graph.ExportInfo.{ExportInfo}
use Rattle.qs_graph.specs.Readings.{info_of}
use Rattle.qs_world.specs.Values.{WorldValue}

-- the name means an export
abbrev pub Names : {D : Type 0} → WorldValue D → List ℕ → Type 0
Names w name = (info : ExportInfo) × (info_of w.graph name ≡ Some info)
