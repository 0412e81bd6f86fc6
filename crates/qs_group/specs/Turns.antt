-- Whose turn it is, for each direction.
use Rattle.std.specs.Prelude.{ℕ, ◌+◌, ◌%◌}
use Rattle.qs_part.specs.declared.group.Dir.{Dir}
use Rattle.qs_part.specs.declared.group.Dir.TheVariants.{Read, Write}
use Rattle.qs_group.specs.declared.turns.Turns.{Turns}

-- the member from whom the next request of a direction is looked for
abbrev pub turn_of : Turns → Dir → ℕ
turn_of turns Read = turns.read
turn_of turns Write = turns.write

-- a request of member m went: the turn is the next member's
abbrev pub passed_on : Turns → Dir → ℕ → Turns
passed_on turns Read m = record { read = (m + 1) % 64; write = turns.write }
passed_on turns Write m = record { read = turns.read; write = (m + 1) % 64 }
