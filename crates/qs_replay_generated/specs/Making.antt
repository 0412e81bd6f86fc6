-- A made-up run: its lines, one after the other.
use Rattle.std.specs.Prelude.{◌≡◌, ℕ, ◌+◌, ◌%◌, ◌^◌, ◌⊎◌, Bool, List, [], ◌∷◌, ◌++◌, length, Some, None, Result, Ok, Err}
use Rattle.qs_outside.specs.Blocks.{Seen}
use Rattle.qs_script.specs.declared.line.Line.{Line}
use Rattle.qs_script.specs.declared.line.LineFault.{LineFault}
use Rattle.qs_generate.specs.Generated.{made_next}
use Rattle.qs_generate.specs.Lives.{Generated}
use Rattle.qs_generate.specs.Rounds.{LineComes}
use Rattle.qs_generate.specs.declared.live.LiveRequest.{LiveRequest}
use Rattle.qs_world.specs.Values.{WorldValue}
use Rattle.qs_calls.specs.Calls.{Call, Plays}
use Rattle.qs_replay_lines.specs.Effects.{CannotCome, DoesLine, DrivesNotLive, IsCutLine, IsPlanned, IsPlayed, PlaysLine, UsesAgain}
use Rattle.qs_replay_lines.specs.Numbers.{answers_in, errors_in, steps_in}
use Rattle.qs_replay_lines.specs.Tables.{Names}
use Rattle.qs_replay_lines.specs.declared.desk.Desk.{Desk}
use Rattle.qs_replay_lines.specs.declared.told.LineTold.{LineTold}
use Rattle.qs_replay_lines.specs.declared.stop.Stop.{Stop}
use Rattle.qs_replay_lines.specs.declared.stop.Stop.TheVariants as stop
use Rattle.qs_replay_generated.specs.Changes.{change_by, lives_after}
use Rattle.qs_replay_generated.specs.declared.counts.Counts.{Counts}

-- where a run stands: the draws and the turn, the live requests in order of making, the core, and what its names
-- stand for
pub record Place (D : Type 0) : Type 0 where
  pub run : Generated
  pub live : List LiveRequest
  pub world : WorldValue D
  pub names : Names

abbrev pub place : {D : Type 0} → Generated → List LiveRequest → Desk D → Place D
place run live desk = record { run = run; live = live; world = desk.world; names = desk.table }

-- the next line was done, with these calls
pub record MakesLine {D : Type 0} (seen : D → Seen) (a : Place D) (calls : List Call) (b : Place D) : Type 0 where
  pub line : Line
  pub is_next : (made_next a.run a.live).0 ≡ Some line
  pub lost : Bool
  pub text : List ℕ
  pub is : IsPlayed seen a.world a.names line lost calls text b.world b.names
  pub run_is : b.run ≡ (made_next a.run a.live).1
  pub live_is : b.live ≡ lives_after a.live (change_by line) (answers_in calls)

-- lines were done one after the other, each with its calls
abbrev pub LinesMade : {D : Type 0} → (D → Seen) → Place D → List (List Call) → Place D → Type 0
LinesMade seen a [] b = b ≡ a
LinesMade seen a (calls ∷ more) b = (mid : Place _) × (MakesLine seen a calls mid × LinesMade seen mid more b)

-- the errors and steps of a line's calls are counted, and the line, modulo 2^64
pub record Counted (old : Counts) (calls : List Call) (new : Counts) : Type 0 where
  pub errors : new.errors ≡ (old.errors + errors_in calls) % 2 ^ 64
  pub steps : new.steps ≡ (old.steps + steps_in calls) % 2 ^ 64
  pub lines : new.lines ≡ (old.lines + 1) % 2 ^ 64

-- Why a line wasn't done, and the calls that it made. Memory may also be refused behind a line.
abbrev pub WhyNot : {D : Type 0} → WorldValue D → Names → Line → Stop → List Call → Type 0
WhyNot w t l stop.BadLine cut = (cut ≡ []) × UsesAgain t l
WhyNot w t l stop.NotNext cut = (cut ≡ []) × (CannotCome w t l ⊎ DrivesNotLive t l)
WhyNot w t l stop.Memory cut = IsCutLine t l cut
    ⊎ ((lost : Bool) × (text : List ℕ) × (t' : Names) × DoesLine t l lost cut text t')

-- behind a place the next line wasn't done to its end
pub record BreaksAt {D : Type 0} (seen : D → Seen) (a : Place D) (s : Stop) (w : WorldValue D) : Type 0 where
  pub line : Line
  pub is_next : (made_next a.run a.live).0 ≡ Some line
  pub cut : List Call
  pub plays : Plays seen a.world cut w
  pub why : WhyNot a.world a.names line s cut

-- a line that was made: no failure of a stripe that isn't there is planned
abbrev pub IsMade : Result Line LineFault → Type 0
IsMade result = (wanted : Line) × (IsPlanned wanted × LineComes wanted result)

-- a line was done, or why not; bytes of a WRITE may have been lost
abbrev pub PlaysSome : {D : Type 0} → (D → Seen) → Desk D → Line → Result LineTold Stop → Desk D → Type 0
PlaysSome seen old l result new = (lost : Bool) × PlaysLine seen old l lost result new

-- A line was done and counted, and the live requests are those behind it; or it wasn't done to its end, or memory was
-- refused behind it, and it isn't counted.
abbrev pub LineDone : {D : Type 0} → (D → Seen) → Desk D → List LiveRequest → Counts → Line → Result Unit Stop →
    Desk D → List LiveRequest → Counts → Type 0
LineDone seen old live counts l (Ok u) new live' counts' =
    (calls : List Call) × (lost : Bool) × (text : List ℕ)
    × (IsPlayed seen old.world old.table l lost calls text new.world new.table ×
    (live' ≡ lives_after live (change_by l) (answers_in calls)) × Counted counts calls counts')
LineDone seen old live counts l (Err s) new live' counts' =
    (cut : List Call) × (Plays seen old.world cut new.world × WhyNot old.world old.table l s cut × (counts' ≡ counts))

-- the calls of lines, in order
abbrev pub calls_of : List (List Call) → List Call
calls_of [] = []
calls_of (calls ∷ more) = calls ++ calls_of more

-- the lines of a run that were done, counted from nothing, and where it then stands
pub record SoFar {D : Type 0} (seen : D → Seen) (a : Place D) (b : Place D) (counts : Counts) : Type 0 where
  pub lines : List (List Call)
  pub made : LinesMade seen a lines b
  pub errors : counts.errors ≡ errors_in (calls_of lines) % 2 ^ 64
  pub steps : counts.steps ≡ steps_in (calls_of lines) % 2 ^ 64
  pub count : counts.lines ≡ length lines % 2 ^ 64

-- A whole run, to the end of its rounds, where no line comes; or one up to a line that wasn't done.
abbrev pub RunMade : {D : Type 0} → (D → Seen) → Place D → Result Unit Stop → Place D → Counts → Type 0
RunMade seen a (Ok u) b counts = (run : Generated)
    × (SoFar seen a (record b { run = run }) counts × ((made_next run b.live).0 ≡ None))
RunMade seen a (Err s) b counts = (mid : Place _) × (SoFar seen a mid counts × BreaksAt seen mid s b.world)
