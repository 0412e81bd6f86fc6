-- The cookies of a made-up run.
use Rattle.std.specs.Prelude.{ℕ, ◌+◌, ◌<◌, ◌≤◌, Option, None, Some, IfSome}
use Rattle.qs_script.specs.declared.line.Line.{Line}
use Rattle.qs_script.specs.declared.line.Line.TheVariants as line
use Rattle.qs_generate.specs.Generated.{Made}
use Rattle.qs_generate.specs.declared.live.NextMove.{NextMove}
use Rattle.qs_generate.specs.declared.live.NextMove.TheVariants as next_move

-- the cookie of a line that makes a request
abbrev pub cookie_of : Line → Option ℕ
cookie_of (line.Read s c offset count) = Some c
cookie_of (line.Write s c offset bytes fua) = Some c
cookie_of (line.Zero s c offset count fua) = Some c
cookie_of (line.Trim s c offset count) = Some c
cookie_of (line.Flush s c) = Some c
cookie_of other = None

-- no cookie from here on was used
abbrev pub next_cookie : NextMove → ℕ
next_cookie (next_move.Attach session) = 1
next_cookie (next_move.Ask round) = round
next_cookie (next_move.Step round left) = round + 1
next_cookie (next_move.Run round pass done) = round + 1

-- a request that comes has a cookie that wasn't used, and is used then
pub record AsksAnew (old : NextMove) (made : Made) : Type 0 where
  pub later : next_cookie old ≤ next_cookie made.1.turn
  pub new : IfSome made.0 (λ line. IfSome (cookie_of line) (λ c. (next_cookie old ≤ c) × (c < next_cookie made.1.turn)))
