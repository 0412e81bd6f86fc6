-- The names of the exports so far.
use Rattle.std.specs.Prelude.{◌≡◌, take}
use Rattle.std.specs.List.{flat_map}
use Rattle.qs_handshake_phase.specs.Tellings.{name_shown}
use Rattle.qs_handshake_phase.proofs.asking.names_in.Given as goal

abbrev pub invariant-loop-row : goal.invariant-loop-row
invariant-loop-row l = l.names.items ≡ flat_map name_shown (take l.row-index l.rows)
