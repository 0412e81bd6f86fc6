use Rattle.std.proofs.Common.{drop, ◌≡◌, ◌<◌, length, position, option_map, IfSome, ℕ, ◌+◌, ◌-◌, ◌*◌, ◌≤◌}
use Rattle.std.specs.List.{slice_get, slice_set}
use Rattle.qs_graph.specs.declared.export.Export.{Export as Standing}
use Rattle.qs_graph.specs.Exports.{clients_of, clients_counted, export_at, first_against, found_at, has_alike, has_name, is_standing, is_vacant, standing}
use Rattle.qs_graph.proofs.places.nth_standing.Given as goal

abbrev pub invariant-loop-place : goal.invariant-loop-place
invariant-loop-place l = slice_get (standing (drop l.place-index l.places)) l.left ≡ slice_get (standing l.places) l.fn.number
