-- What a session's requests ask of the parts, and what these answer.
use Rattle.std.proofs.Common.{◌≡◌, ℕ, List, ◌++◌, ap, ◌∙◌, arith}
use Rattle.qs_outside.specs.Blocks.{Seen}
use Rattle.qs_part.specs.declared.graph.GraphOp.TheVariants.{Route as RouteOp}
use Rattle.qs_part.specs.declared.graph.GraphReply.{GraphReply}
use Rattle.qs_part.specs.declared.graph.GraphReply.TheVariants.{Shutting, Routed}
use Rattle.qs_part.specs.declared.graph.Route.{Route as Way}
use Rattle.qs_part.specs.declared.runs.StripeAnswer.{StripeAnswer}
use Rattle.qs_part.specs.declared.runs.StripeAnswer.TheVariants.{One as OneAnswer}
use Rattle.qs_part.specs.declared.runs.StripeCall.{StripeCall}
use Rattle.qs_part.specs.declared.runs.StripeCall.TheVariants.{One as OneCall}
use Rattle.qs_part.specs.declared.stripe.StripeOp.{StripeOp}
use Rattle.qs_part.specs.declared.stripe.StripeReply.{StripeReply}
use Rattle.qs_part.specs.Histories.{Call, call}
use Rattle.qs_graph.specs.Table.{GraphValue, May}
use Rattle.qs_graph.proofs.Sound.{stands_size}
use Rattle.qs_request_state.specs.declared.shape.Shape.{Shape}
use Rattle.qs_request.specs.declared.todo.PartReply.TheVariants.{Stripe as ByStripe}
use Rattle.qs_request.specs.declared.todo.Todo.TheVariants.{Stripe as OnStripe}
use Rattle.qs_request.specs.Operations.{RouteMay}
use Rattle.qs_task.specs.Books.{notes}
use Rattle.qs_turn.specs.Words.{opening, seen}
use Rattle.qs_shared.specs.Calling.{CallsGraph, CallsStripe}
use Rattle.qs_shared.specs.Hall.{AreOpenedParts}
use Rattle.qs_shared.specs.Parts.{TurnsOver, PassesOver, steps_of_stripe}
use Rattle.qs_shared.specs.Passes.{own_book}
use Rattle.qs_shared.proofs.Passing.{row_own}

-- a way that the graph tells lies inside the image
inside : (shape : Shape) (v : GraphValue) (e : ℕ) (reply : GraphReply) → v.size ≡ shape.size → May v (RouteOp e) reply → RouteMay shape reply
inside shape v e (Routed way) size may =
    let lo : way.offset ≡ 0 = ap (λ (w : Way). w.offset) may.1.1 in
    let high : way.size ≡ v.size = ap (λ (w : Way). w.size) may.1.1 in
    omega (arith, lo, high, size)
inside shape v e Shutting size may = tt
inside shape v e _ size may = absurd may

module _ {D : Type 0} (disk_seen : D → Seen) (s : TurnsOver D) where
  pub route_may : (p p' : PassesOver D) (q e : ℕ) (reply : GraphReply) → AreOpenedParts disk_seen s → CallsGraph s p q (RouteOp e) reply p' → RouteMay s.shape reply
  route_may p p' q e reply parts c =
      let size = stands_size (opening s.graph) (seen p.graph ++ c.called.between) c.called.before c.called.led in
      inside s.shape c.called.before e reply (size ∙ ap (λ (g : GraphValue). g.size) parts.graph) c.called.step.1.0

  -- a call of a stripe is noted at it
  pub stripe_booked : (p p' : PassesOver D) (z q : ℕ) (op : StripeOp) (reply : StripeReply) → CallsStripe disk_seen s p z q (OneCall op) (OneAnswer reply) p'
      → own_book p' ≡ notes (call q (OnStripe z op) (ByStripe reply)) (own_book p)
  stripe_booked p p' z q op reply c =
      ap (λ (x : PassesOver D). own_book x) c.rest
      ∙ ap (λ (l : List (List (Call StripeCall StripeAnswer))). record (own_book p) { made = record (own_book p).made { stripes = l } })
      (row_own (steps_of_stripe disk_seen) s.stripes.items z p.stripes.items q (OneCall op) (OneAnswer reply) p'.stripes.items c.called)
