-- How far a made-up run is from its end.
use Rattle.std.specs.Prelude.{ℕ, ◌+◌, ◌-◌, ◌*◌, ◌^◌}
use Rattle.qs_generate.specs.declared.live.NextMove.{NextMove}
use Rattle.qs_generate.specs.declared.live.NextMove.TheVariants as next_move

-- more than a round takes
abbrev pub span : ℕ
span = 18 * 2 ^ 64

-- it falls with each line: by rounds, then by passes, and in a pass by cookies
abbrev pub turn_rank : NextMove → ℕ
turn_rank (next_move.Attach session) = 10001 * span + (4 - session)
turn_rank (next_move.Ask round) = (10001 - round) * span
turn_rank (next_move.Step round left) = (10000 - round) * span + 17 * 2 ^ 64 + left
turn_rank (next_move.Run round pass done) = (10000 - round) * span + (16 - pass) * 2 ^ 64 + (2 ^ 64 - done)
