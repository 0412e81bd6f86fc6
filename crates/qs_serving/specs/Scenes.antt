-- A session's transmission phase with its wire and its book, and what a run of events does to all three.
use Rattle.std.specs.Prelude.{◌≡◌, ℕ, ◌⊎◌, true, List, ◌++◌, Option, Some, None, ⊤}
use Rattle.qs_outside.specs.Faults.{Rose}
use Rattle.qs_task.specs.Books.{Book}
use Rattle.qs_wire_stream.specs.Currents.{Current, Advanced}
use Rattle.qs_serving.specs.Events.{ServingEvent, given_out, has_break, has_stop, noted_all, taken_in}
use Rattle.qs_serving.specs.Steps.{ServingRuns, ServingValue}

pub record ServingScene : Type 0 where
  pub value : ServingValue
  pub current : Current
  pub book : Book

-- where what a wire has left is told: that, behind the bytes that waited, is all that was taken
abbrev pub TakesAll : Option (List ℕ) → List ℕ → List ℕ → Type 0
TakesAll None waiting taken = ⊤
TakesAll (Some left) waiting taken = waiting ++ left ≡ taken

-- one of the counts of failed calls rose
abbrev pub FaultRose : Current → Current → Type 0
FaultRose old new = Rose old.read_faults new.read_faults ⊎ Rose old.write_faults new.write_faults

-- These events led from one scene to the other. Their bytes were taken off the input and put to the output. Where the
-- input ended, they are all that there was; the wire failed only where a count rose. Just their calls were noted.
pub record ServesOn (es : List ServingEvent) (old new : ServingScene) : Type 0 where
  pub runs : ServingRuns old.value es new.value
  pub advanced : Advanced (taken_in es) (given_out es) old.current new.current
  pub at_end : has_stop es ≡ true → TakesAll old.current.left old.current.waiting (taken_in es)
  pub cause : has_break es ≡ true → FaultRose old.current new.current
  pub booked : new.book ≡ noted_all es old.book

-- events that went on behind others are events that went on
abbrev pub ServingJoins : Type 0
ServingJoins = (a b c : ServingScene) (es fs : List ServingEvent) → ServesOn es a b → ServesOn fs b c →
    ServesOn (es ++ fs) a c
