-- Calls of the parts, with a session's pass.
use Rattle.std.specs.Prelude.{◌≡◌, ℕ}
use Rattle.qs_outside.specs.Blocks.{Seen}
use Rattle.qs_part.specs.declared.graph.GraphOp.{GraphOp}
use Rattle.qs_part.specs.declared.graph.GraphOp.TheVariants.{Route as RouteOp}
use Rattle.qs_part.specs.declared.graph.GraphReply.{GraphReply}
use Rattle.qs_part.specs.declared.group.GroupOp.{GroupOp}
use Rattle.qs_part.specs.declared.group.GroupReply.{GroupReply}
use Rattle.qs_part.specs.declared.runs.StripeAnswer.{StripeAnswer}
use Rattle.qs_part.specs.declared.runs.StripeAnswer.TheVariants.{One as OneAnswer}
use Rattle.qs_part.specs.declared.runs.StripeCall.{StripeCall}
use Rattle.qs_part.specs.declared.runs.StripeCall.TheVariants.{One as OneCall}
use Rattle.qs_part.specs.declared.tracker.TrackerOp.{TrackerOp}
use Rattle.qs_part.specs.declared.tracker.TrackerReply.{TrackerReply}
use Rattle.qs_request.specs.declared.todo.Todo.{Todo}
use Rattle.qs_request.specs.declared.todo.Todo.TheVariants.{Tracker, Route, Stripe}
use Rattle.qs_request.specs.declared.todo.PartReply.{PartReply}
use Rattle.qs_request.specs.declared.todo.PartReply.TheVariants.{Tracker as ByTracker, Graph as ByGraph, Stripe as ByStripe}
use Rattle.qs_turn.specs.Words.{opening, Calls}
use Rattle.qs_turn_rows.specs.Rows.{CalledAt}
use Rattle.qs_shared.specs.Parts.{TurnsOver, PassesOver, steps_of_tracker, steps_of_graph, steps_of_group, steps_of_stripe}

-- one call of a part was made for request q, and no pass of another turn changed
pub record CallsTracker {D : Type 0} (s : TurnsOver D) (p : PassesOver D) (q : ℕ) (op : TrackerOp)
    (reply : TrackerReply) (p' : PassesOver D) : Type 0 where
  pub called : Calls steps_of_tracker (opening s.tracker) p.tracker q op reply p'.tracker
  pub rest : p' ≡ record p { tracker = p'.tracker }

pub record CallsGraph {D : Type 0} (s : TurnsOver D) (p : PassesOver D) (q : ℕ) (op : GraphOp) (reply : GraphReply)
    (p' : PassesOver D) : Type 0 where
  pub called : Calls steps_of_graph (opening s.graph) p.graph q op reply p'.graph
  pub rest : p' ≡ record p { graph = p'.graph }

pub record CallsGroup {D : Type 0} (s : TurnsOver D) (p : PassesOver D) (place q : ℕ) (op : GroupOp)
    (reply : GroupReply) (p' : PassesOver D) : Type 0 where
  pub called : CalledAt steps_of_group s.groups.items place p.groups.items q op reply p'.groups.items
  pub rest : p' ≡ record p { groups = p'.groups }

pub record CallsStripe {D : Type 0} (disk_seen : D → Seen) (s : TurnsOver D) (p : PassesOver D) (place q : ℕ)
    (op : StripeCall) (reply : StripeAnswer) (p' : PassesOver D) : Type 0 where
  pub called : CalledAt (steps_of_stripe disk_seen) s.stripes.items place p.stripes.items q op reply p'.stripes.items
  pub rest : p' ≡ record p { stripes = p'.stripes }

-- one call was made for request q, of the part that the operation names
abbrev pub CallsPart : {D : Type 0} → (D → Seen) → TurnsOver D → PassesOver D → ℕ → Todo → PartReply
    → PassesOver D → Type 0
CallsPart seen s p q (Tracker op) (ByTracker reply) p' = CallsTracker s p q op reply p'
CallsPart seen s p q (Route e) (ByGraph reply) p' = CallsGraph s p q (RouteOp e) reply p'
CallsPart seen s p q (Stripe z op) (ByStripe reply) p' = CallsStripe seen s p z q (OneCall op) (OneAnswer reply) p'
CallsPart seen s p q _ _ p' = ⊥
