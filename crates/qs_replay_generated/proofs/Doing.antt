-- How a line ended, as a line of a made-up run.
use Rattle.std.proofs.Common.{◌≡◌, List, [], refl, sym, subst, inl, inr}
use Rattle.std.specs.Prelude.{Bool, Result, Ok, Err}
use Rattle.std.specs.Result.{IsErrAnd}
use Rattle.qs_outside.specs.Blocks.{Seen}
use Rattle.qs_script.specs.declared.line.Line.{Line}
use Rattle.qs_calls.specs.Calls.{Call, Plays}
use Rattle.qs_generate.specs.declared.live.LiveRequest.{LiveRequest}
use Rattle.qs_replay_lines.specs.Effects.{Played, Stopped}
use Rattle.qs_replay_lines.specs.declared.desk.Desk.{Desk}
use Rattle.qs_replay_lines.specs.declared.stop.Stop.{Stop}
use Rattle.qs_replay_lines.specs.declared.stop.Stop.TheVariants as stop
use Rattle.qs_replay_lines.specs.declared.told.LineTold.{LineTold}
use Rattle.qs_replay_generated.specs.Making.{LineDone, WhyNot}
use Rattle.qs_replay_generated.specs.declared.counts.Counts.{Counts}

abbrev Left : {D : Type 0} → (D → Seen) → Desk D → Line → Stop → Desk D → Type 0
Left seen old l s new = (cut : List Call) × (Plays seen old.world cut new.world × WhyNot old.world old.table l s cut)

-- a line that wasn't done to its end
why_of : {D : Type 0} (seen : D → Seen) (old new : Desk D) (l : Line) (s : Stop) → Stopped seen old l s new → Left seen old l s new
why_of seen old new l stop.BadLine is = ([], (is.1, (refl, is.0)))
why_of seen old new l stop.NotNext is = ([], (is.2, (refl, is.0)))
why_of seen old new l stop.Memory is = (is.0, (is.1.1, inl is.1.0))

left_as : {D : Type 0} (seen : D → Seen) (old new : Desk D) (l : Line) (live live' : List LiveRequest) (c c' : Counts) (s : Stop) (r : Result Unit Stop) →
    IsErrAnd r (λ e. e ≡ s) → c' ≡ c → Left seen old l s new → LineDone seen old live c l r new live' c'
left_as seen old new l live live' c c' s (Ok u) is same left = absurd is
left_as {D} seen old new l live live' c c' s (Err e) is same left =
    let at = subst (λ (x : Stop). Left seen old l x new) (sym is) left in (at.0, (at.1.0, at.1.1, same))

pub left_at : {D : Type 0} (seen : D → Seen) (old new : Desk D) (l : Line) (live live' : List LiveRequest) (c c' : Counts) (s : Stop) (r : Result Unit Stop) →
    IsErrAnd r (λ e. e ≡ s) → c' ≡ c → Stopped seen old l s new → LineDone seen old live c l r new live' c'
left_at seen old new l live live' c c' s r is same stopped = left_as seen old new l live live' c c' s r is same (why_of seen old new l s stopped)

-- memory was refused behind it
pub left_behind : {D : Type 0} (seen : D → Seen) (old played new : Desk D) (l : Line) (lost : Bool) (told : LineTold) (live live' : List LiveRequest) (c c' : Counts)
    (r : Result Unit Stop) → IsErrAnd r (λ e. e ≡ stop.Memory) → c' ≡ c → Played seen old l lost told played → new.world ≡ played.world →
    LineDone seen old live c l r new live' c'
left_behind {D} seen old played new l lost told live live' c c' r is kept p same =
    left_as seen old new l live live' c c' stop.Memory r is kept
    (p.calls, (subst (λ w. Plays seen old.world p.calls w) (sym same) p.is.plays, inr (lost, p.text, played.table, p.is.does)))
