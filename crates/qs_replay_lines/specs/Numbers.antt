-- What calls of the core come to, in numbers.
use Rattle.std.specs.Prelude.{◌≡◌, ℕ, ◌+◌, ◌%◌, ◌^◌, Bool, true, false, List, [], ◌∷◌, ◌++◌, Option, Some, None}
use Rattle.qs_bytes.specs.declared.ask.Verdict.{Verdict}
use Rattle.qs_bytes.specs.declared.ask.Verdict.TheVariants as verdict
use Rattle.qs_part.specs.declared.event.Event.TheVariants as event
use Rattle.qs_part.specs.declared.event.Outcome.{Outcome}
use Rattle.qs_part.specs.declared.event.Outcome.TheVariants as outcome
use Rattle.qs_calls.specs.Calls.{Call, Happened}
use Rattle.qs_replay_lines.specs.declared.told.LineTold.{LineTold}

-- An answer that isn't 0. A request that was dropped has no answer 0 either.
abbrev pub is_error : Verdict → Bool
is_error (verdict.Got bytes) = false
is_error verdict.Fine = false
is_error other = true

-- whether the answer is an error, where a step brought one
abbrev pub ended_by : Outcome → Option Bool
ended_by (outcome.Answered v told) = Some (is_error v)
ended_by other = None

-- one or none
abbrev pub each : Option Bool → List Bool
each None = []
each (Some error) = error ∷ []

-- a call is a step of an actor, or none
abbrev pub steps_by : Call → ℕ
steps_by (Happened (event.Step actor now) o) = 1
steps_by other = 0

-- the steps among calls
abbrev pub steps_in : List Call → ℕ
steps_in [] = 0
steps_in (c ∷ calls) = steps_by c + steps_in calls

-- requests are answered by steps alone
abbrev pub answers_by : Call → List Bool
answers_by (Happened (event.Step actor now) o) = each (ended_by o)
answers_by other = []

-- for each answer among calls, in order, whether it is an error
abbrev pub answers_in : List Call → List Bool
answers_in [] = []
answers_in (c ∷ calls) = answers_by c ++ answers_in calls

-- the errors among answers
abbrev pub errors_of : List Bool → ℕ
errors_of [] = 0
errors_of (true ∷ answers) = 1 + errors_of answers
errors_of (false ∷ answers) = errors_of answers

-- the answers among calls that are errors
abbrev pub errors_in : List Call → ℕ
errors_in calls = errors_of (answers_in calls)

-- no step and no answer
abbrev pub quiet : LineTold
quiet = record { steps = 0; ended = None }

-- The steps of a line's calls, modulo 2^64, and its answer: a line answers one request at most.
pub record Tells (calls : List Call) (told : LineTold) : Type 0 where
  pub steps_are : told.steps ≡ steps_in calls % 2 ^ 64
  pub answers_are : answers_in calls ≡ each told.ended
