-- How a request begins.
use Rattle.std.specs.Prelude.{◌≡◌, ℕ, ◌+◌, List, Option}
use Rattle.qs_bytes.specs.declared.ask.Ask.{Ask}
use Rattle.qs_task.specs.Crews.{Began, CrewStep, CrewValue}
use Rattle.qs_task.specs.Tasks.{TaskValue}
use Rattle.qs_serving.specs.Steps.{IsAsRead}

-- a request to the export at this place begins as it was read, with the next number
pub record BeginsAsRead (export : ℕ) (ask : Ask) (body : Option (List ℕ)) (old new : CrewValue) : Type 0 where
  pub task : TaskValue
  pub number : task.number ≡ old.newest + 1
  pub read : IsAsRead export ask body task.request
  pub step : CrewStep old (Began task) new
