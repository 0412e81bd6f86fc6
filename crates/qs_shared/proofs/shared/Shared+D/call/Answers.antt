use Rattle.std.proofs.Common.{◌≡◌, ℕ, sym, subst}
use Rattle.qs_part.specs.Histories.{call}
use Rattle.qs_part.specs.declared.runs.StripeAnswer.TheVariants.{One as OneAnswer}
use Rattle.qs_part.specs.declared.runs.StripeCall.TheVariants.{One as OneCall}
use Rattle.qs_request.specs.declared.todo.Todo.{Todo}
use Rattle.qs_request.specs.declared.todo.PartReply.TheVariants.{Graph as ByGraph, Stripe as ByStripe}
use Rattle.qs_request.specs.Operations.{MayReplyTo}
use Rattle.qs_task.specs.Books.{notes}
use Rattle.qs_shared.specs.Calling.{CallsStripe}
use Rattle.qs_shared.specs.Passes.{own_book}
use Rattle.qs_shared.proofs.Replies.{route_may, stripe_booked}
use Rattle.qs_shared.proofs.shared.Shared+D.call.Goals as goal

pub returns-in-Route-clause-may : goal.returns-in-Route-clause-may
returns-in-Route-clause-may g c =
    subst (λ (t : Todo). MayReplyTo c.args.self.now.shape t (ByGraph c.call_graph.result)) (sym c.in-Route.is)
    (route_may g.D.Disk.seen c.args.self.now c.args.pass.now c.call_graph.new.pass c.args.request c.in-Route.e c.call_graph.result c.requires.of.parts c.call_graph.ensures.calls)

pub returns-in-Stripe-clause-booked : goal.returns-in-Stripe-clause-booked
returns-in-Stripe-clause-booked g c =
    subst (λ (t : Todo). own_book c.call_single.new.pass ≡ notes (call c.args.request t (ByStripe c.call_single.result)) (own_book c.args.pass.now)) (sym c.in-Stripe.is)
    (stripe_booked g.D.Disk.seen c.args.self.now c.args.pass.now c.call_single.new.pass c.in-Stripe.stripe c.args.request c.in-Stripe.op c.call_single.result
    (subst (λ (z : ℕ). CallsStripe g.D.Disk.seen c.args.self.now c.args.pass.now z c.args.request (OneCall c.in-Stripe.op) (OneAnswer c.call_single.result) c.call_single.new.pass) c.from-place.ensures c.call_single.ensures.calls))
