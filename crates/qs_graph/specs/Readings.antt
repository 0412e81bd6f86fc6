-- What is read of the exports, and changes nothing.
use Rattle.std.specs.Prelude.{ℕ, List, Option, map, option_map}
use Rattle.std.specs.List.{slice_get}
use Rattle.qs_part.specs.declared.graph.ExportInfo.{ExportInfo}
use Rattle.qs_graph.specs.declared.export.Export.{Export}
use Rattle.qs_graph.specs.Exports.{found_at, standing}
use Rattle.qs_graph.specs.Table.{GraphValue, info_at}

-- what a client learns of the export that a name means
abbrev pub info_of : GraphValue → List ℕ → Option ExportInfo
info_of v name = option_map (info_at v) (found_at v.places name)

-- the names of the standing exports, in the order in which they were made
abbrev pub names_of : GraphValue → List (List ℕ)
names_of v = map (λ (x : Export). x.name) (standing v.places)

-- the name of the standing export of this number in that order, from 0 on
abbrev pub export_name_at : GraphValue → ℕ → Option (List ℕ)
export_name_at v n = slice_get (names_of v) n
