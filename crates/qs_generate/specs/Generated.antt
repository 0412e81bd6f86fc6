-- The lines of a made-up run, each by where the run stands and which requests are live, in order of
-- making.
use Rattle.std.specs.Prelude.{◌≡◌, ℕ, ◌+◌, ◌-◌, ◌%◌, ◌==◌, ◌||◌, if◌then◌else◌, nat_le, nat_lt, find, slice_get, option_map, length, List, [], ◌∷◌, Option, None, Some, Result}
use Rattle.qs_script.specs.declared.line.Line.{Line}
use Rattle.qs_script.specs.declared.line.Line.TheVariants as line
use Rattle.qs_script.specs.declared.line.LineFault.{LineFault}
use Rattle.qs_generate.specs.Drawing.{drawn, round_draws, state_after}
use Rattle.qs_generate.specs.Lives.{Generated, actor_of, attach_line}
use Rattle.qs_generate.specs.Rounds.{LineComes, request_line}
use Rattle.qs_generate.specs.declared.live.LiveRequest.{LiveRequest}
use Rattle.qs_generate.specs.declared.live.NextMove.{NextMove}
use Rattle.qs_generate.specs.declared.live.NextMove.TheVariants as next_move

-- the line that comes, if there is one, and where the run then stands
abbrev pub Made : Type 0
Made = Option Line × Generated

-- the request of a round, of which there are 10,000
abbrev pub round_asked : Generated → ℕ → Made
round_asked g round =
    if nat_le round 10000
    then (
      Some (request_line round (round_draws g.size g.state)),
      record g { state = state_after g.state 6; turn = next_move.Step round (round_draws g.size g.state).steps },
    )
    else (None, record g { turn = next_move.Ask round })

-- a request is run, in a pass behind a round
abbrev pub ran : Generated → ℕ → ℕ → LiveRequest → Made
ran g round pass r = (Some (line.Run (actor_of r) 0), record g { turn = next_move.Run round pass r.cookie })

-- a pass begins with the request that was made first; where none is live the next round begins
abbrev pub pass_begun : Generated → ℕ → ℕ → List LiveRequest → Made
pass_begun g round pass [] = round_asked g (round + 1)
pass_begun g round pass (first ∷ others) = ran g round pass first

-- a pass goes on with the first request that is left, else the next one begins; there are 16
abbrev pub pass_over : Generated → ℕ → ℕ → List LiveRequest → Option LiveRequest → Made
pass_over g round pass live (Some next) = ran g round pass next
pass_over g round pass live None = if nat_lt pass 16 then pass_begun g round (pass + 1) live
    else round_asked g (round + 1)

-- passes come behind each 16th round
abbrev pub round_settled : Generated → ℕ → List LiveRequest → Made
round_settled g round live = if round % 16 == 0 then pass_begun g round 1 live else round_asked g (round + 1)

-- a live request at a drawn place makes a step, while steps are left and a request is live
abbrev pub stepped : Generated → ℕ → ℕ → List LiveRequest → Made
stepped g round left live =
    if left == 0 || length live == 0 then round_settled g round live
    else (
      option_map (λ r. line.Step (actor_of r) 0) (slice_get live (drawn g.state 1 (length live))),
      record g { state = state_after g.state 1; turn = next_move.Step round (left - 1) },
    )

-- a session is made; there are four
abbrev pub session_attached : Generated → ℕ → Made
session_attached g session = (
  Some (attach_line session),
  record g { turn = if nat_lt session 3 then next_move.Attach (session + 1) else next_move.Ask 1 },
)

-- what comes next
abbrev pub made_at : Generated → List LiveRequest → NextMove → Made
made_at g live (next_move.Attach session) = session_attached g session
made_at g live (next_move.Ask round) = round_asked g round
made_at g live (next_move.Step round left) = stepped g round left live
made_at g live (next_move.Run round pass done) = pass_over g round pass live (find (λ r. nat_lt done r.cookie) live)

abbrev pub made_next : Generated → List LiveRequest → Made
made_next g live = made_at g live g.turn

-- such a line comes
abbrev pub ComesIf : Option Line → Option (Result Line LineFault) → Type 0
ComesIf None result = result ≡ None
ComesIf (Some wanted) None = ⊥
ComesIf (Some wanted) (Some result) = LineComes wanted result

pub record Makes (made_next : Made) (result : Option (Result Line LineFault)) (new : Generated) : Type 0 where
  pub line : ComesIf made_next.0 result
  pub after : new ≡ made_next.1
