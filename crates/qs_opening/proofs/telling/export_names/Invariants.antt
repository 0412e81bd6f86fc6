-- The names so far are the first ones.
use Rattle.std.proofs.Common.{◌≡◌, ◌-◌, ◌≤◌, length, take}
use Rattle.std.specs.Prelude.{vec_len}
use Rattle.qs_graph.specs.Readings.{names_of}
use Rattle.qs_opening.proofs.telling.export_names.Given as goal

abbrev pub invariant-loop-name : goal.invariant-loop-name
invariant-loop-name g l = record {
  few : vec_len l.names ≤ length (names_of l.world.graph);
  front : l.names.items ≡ take (vec_len l.names) (names_of l.world.graph);
}

abbrev pub decreases-loop-name : goal.decreases-loop-name
decreases-loop-name g l = length (names_of l.world.graph) - vec_len l.names
