-- The story of each request of a crew: a law over every list of events.
use Rattle.std.specs.Prelude.{ℕ, List}
use Rattle.qs_request_state.specs.declared.shape.Shape.{Shape}
use Rattle.qs_task.specs.Crews.{CrewValue, CrewEvent, CrewRuns, HasWalk, no_crew}

-- Whatever happens to a crew from its making on, in whatever order its requests are polled: the calls of each number
-- are the walk of its request through the request table, each once.
abbrev pub MergedWalks : Type 0
MergedWalks = (shape : Shape) (events : List CrewEvent) (crew : CrewValue) → CrewRuns (no_crew shape) events crew →
    (n : ℕ) → HasWalk shape n events crew
