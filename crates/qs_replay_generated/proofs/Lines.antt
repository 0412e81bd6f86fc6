-- Which lines a made-up run makes: none is a plan of a failure.
use Rattle.std.proofs.Common.{ℕ, ◌+◌, Bool, true, false, List, [], ◌∷◌, length}
use Rattle.std.specs.Prelude.{◌-◌, ◌%◌, ◌==◌, ◌||◌, if◌then◌else◌, nat_le, nat_lt, find, slice_get, option_map, Option, None, Some, IfSome}
use Rattle.qs_script.specs.declared.line.Line.{Line}
use Rattle.qs_script.specs.declared.line.Line.TheVariants as line
use Rattle.qs_generate.specs.Drawing.{drawn, round_draws, state_after}
use Rattle.qs_generate.specs.Generated.{Made, round_asked, pass_begun, made_next, made_at, pass_over, round_settled, stepped}
use Rattle.qs_generate.specs.Lives.{Generated, actor_of}
use Rattle.qs_generate.specs.Rounds.{wanted_kind, line_of, request_line}
use Rattle.qs_generate.specs.declared.draws.RoundDraws.{RoundDraws}
use Rattle.qs_generate.specs.declared.live.LiveRequest.{LiveRequest}
use Rattle.qs_generate.specs.declared.live.NextMove.{NextMove}
use Rattle.qs_generate.specs.declared.live.NextMove.TheVariants as next_move
use Rattle.qs_generate.specs.declared.request.Wanted.{Wanted}
use Rattle.qs_generate.specs.declared.request.Wanted.TheVariants as wanted
use Rattle.qs_replay_lines.specs.Effects.{IsPlanned}

-- a line of a made-up run
abbrev pub IsOfRun : Line → Type 0
IsOfRun (line.Session s e) = Unit {0}
IsOfRun (line.Write s c offset bytes fua) = Unit {0}
IsOfRun (line.Read s c offset long) = Unit {0}
IsOfRun (line.Zero s c offset long fua) = Unit {0}
IsOfRun (line.Flush s c) = Unit {0}
IsOfRun (line.Step actor now) = Unit {0}
IsOfRun (line.Run actor now) = Unit {0}
IsOfRun other = ⊥

abbrev Plain : Made → Type 0
Plain made_next = IfSome made_next.0 IsOfRun

asks_plain : (k : Wanted) (round : ℕ) (d : RoundDraws) → IsOfRun (line_of k round d)
asks_plain wanted.Write round d = tt
asks_plain wanted.Read round d = tt
asks_plain wanted.Zero round d = tt
asks_plain wanted.Flush round d = tt

asked_plain : (g : Generated) (round : ℕ) → Plain (round_asked g round)
asked_plain g round =
    let d = round_draws g.size g.state in
    let made_one : Made = (Some (request_line round d), record g { state = state_after g.state 6; turn = next_move.Step round d.steps }) in
    let made_none : Made = (None, record g { turn = next_move.Ask round }) in
    elim (nat_le round 10000) as (λ (b : Bool). Plain (if b then made_one else made_none)) [
      | true ↦ asks_plain (wanted_kind round d.kind) round d
      | false ↦ tt
    ]

begun_plain : (g : Generated) (round pass : ℕ) (live : List LiveRequest) → Plain (pass_begun g round pass live)
begun_plain g round pass [] = asked_plain g (round + 1)
begun_plain g round pass (first ∷ others) = tt

passed_plain : (g : Generated) (round pass : ℕ) (live : List LiveRequest) (left : Option LiveRequest) → Plain (pass_over g round pass live left)
passed_plain g round pass live (Some next) = tt
passed_plain g round pass live None =
    elim (nat_lt pass 16) as (λ (b : Bool). Plain (if b then pass_begun g round (pass + 1) live else round_asked g (round + 1))) [
      | true ↦ begun_plain g round (pass + 1) live
      | false ↦ asked_plain g (round + 1)
    ]

settled_plain : (g : Generated) (round : ℕ) (live : List LiveRequest) → Plain (round_settled g round live)
settled_plain g round live =
    elim (round % 16 == 0) as (λ (b : Bool). Plain (if b then pass_begun g round 1 live else round_asked g (round + 1))) [
      | true ↦ begun_plain g round 1 live
      | false ↦ asked_plain g (round + 1)
    ]

step_plain : (g : Generated) (round left : ℕ) (who : Option LiveRequest) →
    Plain (option_map (λ r. line.Step (actor_of r) 0) who, record g { state = state_after g.state 1; turn = next_move.Step round (left - 1) })
step_plain g round left None = tt
step_plain g round left (Some r) = tt

stepped_plain : (g : Generated) (round left : ℕ) (live : List LiveRequest) → Plain (stepped g round left live)
stepped_plain g round left live =
    let one : Made = (
      option_map (λ r. line.Step (actor_of r) 0) (slice_get live (drawn g.state 1 (length live))),
      record g { state = state_after g.state 1; turn = next_move.Step round (left - 1) },
    ) in
    elim (left == 0 || length live == 0) as (λ (b : Bool). Plain (if b then round_settled g round live else one)) [
      | true ↦ settled_plain g round live
      | false ↦ step_plain g round left (slice_get live (drawn g.state 1 (length live)))
    ]

plain_at : (g : Generated) (live : List LiveRequest) (t : NextMove) → Plain (made_at g live t)
plain_at g live (next_move.Attach session) = tt
plain_at g live (next_move.Ask round) = asked_plain g round
plain_at g live (next_move.Step round left) = stepped_plain g round left live
plain_at g live (next_move.Run round pass done) = passed_plain g round pass live (find (λ r. nat_lt done r.cookie) live)

pub of_run : (g : Generated) (live : List LiveRequest) → IfSome (made_next g live).0 IsOfRun
of_run g live = plain_at g live g.turn

planned_of : (l : Line) → IsOfRun l → IsPlanned l
planned_of (line.Fail j fail) is = absurd is
planned_of (line.Session s e) is = tt
planned_of (line.End s) is = tt
planned_of (line.Write s c offset bytes fua) is = tt
planned_of (line.Read s c offset long) is = tt
planned_of (line.Zero s c offset long fua) is = tt
planned_of (line.Trim s c offset long) is = tt
planned_of (line.Flush s c) is = tt
planned_of (line.Step actor now) is = tt
planned_of (line.Run actor now) is = tt
planned_of line.Nothing is = tt
planned_of (line.Crash choice) is = tt

planned_if : (o : Option Line) → IfSome o IsOfRun → IfSome o IsPlanned
planned_if None is = tt
planned_if (Some l) is = planned_of l is

pub plain : (g : Generated) (live : List LiveRequest) → IfSome (made_next g live).0 IsPlanned
plain g live = planned_if (made_next g live).0 (of_run g live)
