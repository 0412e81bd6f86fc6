-- Each request of a made-up run has a cookie of its own.
use Rattle.std.proofs.Common.{ℕ, ◌+◌, ◌<◌, ◌≤◌, Bool, true, false, List, [], ◌∷◌, length, arith}
use Rattle.std.specs.Prelude.{◌-◌, ◌%◌, ◌==◌, ◌||◌, if◌then◌else◌, nat_le, nat_lt, find, slice_get, option_map, Option, None, Some, IfSome}
use Rattle.qs_script.specs.declared.line.Line.TheVariants as line
use Rattle.qs_generate.specs.Drawing.{drawn, round_draws, state_after}
use Rattle.qs_generate.specs.Generated.{Made, round_asked, session_attached, pass_begun, made_next, made_at, pass_over, ran, round_settled, stepped}
use Rattle.qs_generate.specs.Lives.{Generated, actor_of, attach_line}
use Rattle.qs_generate.specs.Numbering.{AsksAnew, cookie_of, next_cookie}
use Rattle.qs_generate.specs.Rounds.{wanted_kind, line_of, request_line}
use Rattle.qs_generate.specs.declared.draws.RoundDraws.{RoundDraws}
use Rattle.qs_generate.specs.declared.live.LiveRequest.{LiveRequest}
use Rattle.qs_generate.specs.declared.live.NextMove.{NextMove}
use Rattle.qs_generate.specs.declared.live.NextMove.TheVariants as next_move
use Rattle.qs_generate.specs.declared.request.Wanted.{Wanted}
use Rattle.qs_generate.specs.declared.request.Wanted.TheVariants as wanted

-- a request's cookie is its round's number
asks_round : (k : Wanted) (round : ℕ) (d : RoundDraws) (Q : ℕ → Type 0) → Q round → IfSome (cookie_of (line_of k round d)) Q
asks_round wanted.Write round d Q is = is
asks_round wanted.Read round d Q is = is
asks_round wanted.Zero round d Q is = is
asks_round wanted.Flush round d Q is = is

asked_anew : (old : NextMove) (g : Generated) (round : ℕ) → next_cookie old ≤ round → AsksAnew old (round_asked g round)
asked_anew old g round before =
    let d = round_draws g.size g.state in
    let made_one : Made = (Some (request_line round d), record g { state = state_after g.state 6; turn = next_move.Step round d.steps }) in
    let made_none : Made = (None, record g { turn = next_move.Ask round }) in
    elim (nat_le round 10000) as (λ (b : Bool). AsksAnew old (if b then made_one else made_none)) [
      | true ↦ record {
        later = omega (arith, before);
        new = asks_round (wanted_kind round d.kind) round d (λ c. (next_cookie old ≤ c) × (c < round + 1)) (before, omega arith);
      }
      | false ↦ record { later = before; new = tt }
    ]

ran_anew : (old : NextMove) (g : Generated) (round pass : ℕ) (r : LiveRequest) → next_cookie old ≤ round + 1 → AsksAnew old (ran g round pass r)
ran_anew old g round pass r before = record { later = before; new = tt }

begun_anew : (old : NextMove) (g : Generated) (round pass : ℕ) (live : List LiveRequest) → next_cookie old ≤ round + 1 → AsksAnew old (pass_begun g round pass live)
begun_anew old g round pass [] before = asked_anew old g (round + 1) before
begun_anew old g round pass (first ∷ others) before = ran_anew old g round pass first before

passed_anew : (old : NextMove) (g : Generated) (round pass : ℕ) (live : List LiveRequest) (left : Option LiveRequest) → next_cookie old ≤ round + 1 →
    AsksAnew old (pass_over g round pass live left)
passed_anew old g round pass live (Some next) before = ran_anew old g round pass next before
passed_anew old g round pass live None before =
    elim (nat_lt pass 16) as (λ (b : Bool). AsksAnew old (if b then pass_begun g round (pass + 1) live else round_asked g (round + 1))) [
      | true ↦ begun_anew old g round (pass + 1) live before
      | false ↦ asked_anew old g (round + 1) before
    ]

settled_anew : (old : NextMove) (g : Generated) (round : ℕ) (live : List LiveRequest) → next_cookie old ≤ round + 1 → AsksAnew old (round_settled g round live)
settled_anew old g round live before =
    elim (round % 16 == 0) as (λ (b : Bool). AsksAnew old (if b then pass_begun g round 1 live else round_asked g (round + 1))) [
      | true ↦ begun_anew old g round 1 live before
      | false ↦ asked_anew old g (round + 1) before
    ]

step_anew : (old : NextMove) (g : Generated) (round left : ℕ) (who : Option LiveRequest) → next_cookie old ≤ round + 1 →
    AsksAnew old (option_map (λ r. line.Step (actor_of r) 0) who, record g { state = state_after g.state 1; turn = next_move.Step round (left - 1) })
step_anew old g round left None before = record { later = before; new = tt }
step_anew old g round left (Some r) before = record { later = before; new = tt }

stepped_anew : (old : NextMove) (g : Generated) (round left : ℕ) (live : List LiveRequest) → next_cookie old ≤ round + 1 → AsksAnew old (stepped g round left live)
stepped_anew old g round left live before =
    let one : Made = (
      option_map (λ r. line.Step (actor_of r) 0) (slice_get live (drawn g.state 1 (length live))),
      record g { state = state_after g.state 1; turn = next_move.Step round (left - 1) },
    ) in
    elim (left == 0 || length live == 0) as (λ (b : Bool). AsksAnew old (if b then round_settled g round live else one)) [
      | true ↦ settled_anew old g round live before
      | false ↦ step_anew old g round left (slice_get live (drawn g.state 1 (length live))) before
    ]

attached_anew : (g : Generated) (session : ℕ) → AsksAnew (next_move.Attach session) (session_attached g session)
attached_anew g session =
    elim (nat_lt session 3) as
    (λ (b : Bool). AsksAnew (next_move.Attach session) (Some (attach_line session), record g { turn = if b then next_move.Attach (session + 1) else next_move.Ask 1 })) [
      | true ↦ record { later = omega arith; new = tt }
      | false ↦ record { later = omega arith; new = tt }
    ]

anew_at : (g : Generated) (live : List LiveRequest) (t : NextMove) → AsksAnew t (made_at g live t)
anew_at g live (next_move.Attach session) = attached_anew g session
anew_at g live (next_move.Ask round) = asked_anew (next_move.Ask round) g round (omega arith)
anew_at g live (next_move.Step round left) = stepped_anew (next_move.Step round left) g round left live (omega arith)
anew_at g live (next_move.Run round pass done) =
    passed_anew (next_move.Run round pass done) g round pass live (find (λ r. nat_lt done r.cookie) live) (omega arith)

pub new_cookies : (g : Generated) (live : List LiveRequest) → AsksAnew g.turn (made_next g live)
new_cookies g live = anew_at g live g.turn
