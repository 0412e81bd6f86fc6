use Rattle.std.proofs.Common.{◌≡◌, ℕ, ◌-◌, ◌<◌, ◌≤◌, length, take, vec_capacity}
use Rattle.std.specs.Prelude.{None}
use Rattle.qs_qmp_frame.specs.Phases.{HasStageRoom, frame_event_of, phase_of, run}
use Rattle.qs_qmp_frame.proofs.stage.take_piece.Given as goal

-- the bytes so far led here, and none of them told an event
abbrev pub invariant-loop-taken : goal.invariant-loop-taken
invariant-loop-taken l =
    (l.taken ≤ length l.piece) ×
    (phase_of l.stage l.kept.items ≡ run (phase_of l.initial.stage l.initial.kept.items) (take l.taken l.piece)) ×
    ((k : ℕ) → 0 < k → k ≤ l.taken → frame_event_of (run (phase_of l.initial.stage l.initial.kept.items) (take k l.piece)) ≡ None) ×
    HasStageRoom l.stage l.kept.items ×
    (vec_capacity l.kept ≡ vec_capacity l.initial.kept)

abbrev pub decreases-loop-taken : goal.decreases-loop-taken
decreases-loop-taken l = length l.piece - l.taken
