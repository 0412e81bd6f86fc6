-- The parts behind turns: what is known of a turn and of a pass of each, and how each part may answer.
use Rattle.std.specs.declared.snapshot.Snapshot.{Snapshot}
use Rattle.qs_outside.specs.Blocks.{Seen}
use Rattle.qs_part.specs.declared.graph.GraphOp.{GraphOp}
use Rattle.qs_part.specs.declared.graph.GraphReply.{GraphReply}
use Rattle.qs_part.specs.declared.group.GroupOp.{GroupOp}
use Rattle.qs_part.specs.declared.group.GroupReply.{GroupReply}
use Rattle.qs_part.specs.declared.runs.StripeAnswer.{StripeAnswer}
use Rattle.qs_part.specs.declared.runs.StripeCall.{StripeCall}
use Rattle.qs_part.specs.declared.tracker.TrackerOp.{TrackerOp}
use Rattle.qs_part.specs.declared.tracker.TrackerReply.{TrackerReply}
use Rattle.qs_part.specs.Histories.{lawful}
use Rattle.qs_graph.specs.History.{lawful_call as graph_lawful}
use Rattle.qs_graph.specs.Table.{GraphValue}
use Rattle.qs_group.specs.History.{lawful_call as group_lawful}
use Rattle.qs_group.specs.Table.{GroupValue}
use Rattle.qs_stripe.specs.declared.geometry.Geometry.{Geometry}
use Rattle.qs_stripe.specs.Runs.{FitsCall, call_answers}
use Rattle.qs_stripe.specs.Table.{StripeState, geometry, value_of}
use Rattle.qs_tracker.specs.History.{lawful_call as tracker_lawful}
use Rattle.qs_tracker.specs.Table.{TrackerValue}
use Rattle.qs_turn.specs.declared.view.View.{View}
use Rattle.qs_turn.specs.Names.{Name, Known}
use Rattle.qs_shared.specs.declared.parts.PartPasses.{PartPasses}
use Rattle.qs_shared.specs.declared.parts.PartTurns.{PartTurns}

-- the turns of all parts, over stripes on disks D
abbrev pub TurnsOver : Type 0 → Type 0
TurnsOver D = PartTurns (Name (Snapshot TrackerValue)) (Name (Snapshot GraphValue)) (Name (Snapshot GroupValue))
    (Name (Snapshot (StripeState D))) Geometry

-- a pass of each
abbrev pub PassesOver : Type 0 → Type 0
PassesOver D = PartPasses (Known (View TrackerValue TrackerOp TrackerReply))
    (Known (View GraphValue GraphOp GraphReply)) (Known (View GroupValue GroupOp GroupReply))
    (Known (View (StripeState D) StripeCall StripeAnswer)) (StripeState D) D

-- the steps that each part may make
abbrev pub steps_of_tracker : TrackerValue → TrackerOp → TrackerReply → TrackerValue → Type 0
steps_of_tracker = tracker_lawful

abbrev pub steps_of_graph : GraphValue → GraphOp → GraphReply → GraphValue → Type 0
steps_of_graph = graph_lawful

abbrev pub steps_of_group : GroupValue → GroupOp → GroupReply → GroupValue → Type 0
steps_of_group = group_lawful

abbrev pub steps_of_stripe : {D : Type 0} → (D → Seen) → StripeState D → StripeCall → StripeAnswer → StripeState D →
    Type 0
steps_of_stripe {D = D} seen =
    lawful (λ (s : StripeState D). geometry (value_of seen s)) FitsCall
    (λ (old : StripeState D) call answer (new : StripeState D).
    call_answers (value_of seen old) call answer (value_of seen new))
