-- Where a made-up run stands, and its live requests.
use Rattle.std.specs.Prelude.{ℕ, ◌<◌, ◌≤◌, codes}
use Rattle.qs_script.specs.declared.actor.ScriptActor.{ScriptActor}
use Rattle.qs_script.specs.declared.actor.ScriptActor.TheVariants as actor
use Rattle.qs_script.specs.declared.line.Line.{Line}
use Rattle.qs_script.specs.declared.line.Line.TheVariants as line
use Rattle.qs_generate.specs.Rounds.{nth_session}
use Rattle.qs_generate.specs.declared.live.LiveRequest.{LiveRequest}
use Rattle.qs_generate.specs.declared.live.NextMove.{NextMove}
use Rattle.qs_generate.specs.declared.live.NextMove.TheVariants as next_move

-- the bytes of the image, the state of the draws, and what comes next
pub record Generated : Type 0 where
  pub size : ℕ
  pub state : ℕ
  pub turn : NextMove

-- there are four sessions and 10,000 rounds
abbrev pub IsLawful : NextMove → Type 0
IsLawful (next_move.Attach session) = session < 4
IsLawful (next_move.Ask round) = round ≤ 10001
IsLawful (next_move.Step round left) = round ≤ 10000
IsLawful (next_move.Run round pass done) = round ≤ 10000

abbrev pub actor_of : LiveRequest → ScriptActor
actor_of r = actor.Request r.session r.cookie

-- `session S disk`
abbrev pub attach_line : ℕ → Line
attach_line session = line.Session (nth_session session) (codes "disk")
