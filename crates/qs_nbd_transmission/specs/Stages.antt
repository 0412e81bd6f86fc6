-- The reader's own fields: the head, of which some front is held, and the stage.
use Rattle.std.specs.Prelude.{◌≡◌, ℕ, ◌<◌, ◌≤◌, true, List, length, take}
use Rattle.qs_nbd_transmission.specs.declared.stage.Stage.{Stage}
use Rattle.qs_nbd_transmission.specs.declared.stage.Stage.TheVariants as stage
use Rattle.qs_nbd_wire.specs.Requests.{head_of, has_body}
use Rattle.qs_nbd_transmission.specs.Heads.{IsHeadFront}
use Rattle.qs_nbd_transmission.specs.Phases.{Phase, InHead, Wants, Fills, Skips, Over, Stuck}

-- what a stage means, beside the head's bytes
abbrev pub phase_of : List ℕ → Stage → Phase
phase_of head (stage.Head held) = InHead (take held head)
phase_of head stage.Wants = Wants (head_of head)
phase_of head (stage.Fills buffer got) = Fills (head_of head) (take got buffer.items)
phase_of head (stage.Skips size left) = Skips (head_of head) left
phase_of head stage.Over = Over
phase_of head (stage.Stuck bad) = Stuck bad

-- what every reader's fields keep
abbrev pub IsSound : List ℕ → Stage → Type 0
IsSound head (stage.Head held) = (held < 28) × IsHeadFront (take held head)
IsSound head stage.Wants = has_body (head_of head) ≡ true
IsSound head (stage.Fills buffer got) = (length buffer.items ≡ (head_of head).size) × (got < length buffer.items)
IsSound head (stage.Skips size left) = (size ≡ (head_of head).size) × (0 < left) × (left ≤ size)
IsSound head stage.Over = Unit {0}
IsSound head (stage.Stuck bad) = Unit {0}
