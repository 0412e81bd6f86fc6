use Rattle.std.proofs.Common.{◌+◌, subst}
use Rattle.qs_outside.proofs.BlockRuns.{in_order-more}
use Rattle.qs_stripe.specs.Holds.{LetsGo, holds_of}
use Rattle.qs_stripe.proofs.holds.Holds.let_go_run.Goals as goal

pub loop-i-preserved : goal.loop-i-preserved
loop-i-preserved c =
    let gone = subst (λ j. LetsGo c.args.k (c.args.b + j) (holds_of c.loop-i.self) (holds_of c.let_go.new.self)) c.from.ensures c.let_go.ensures in
    in_order-more (λ j. LetsGo c.args.k (c.args.b + j)) c.loop-i.i (holds_of c.args.self.now) (holds_of c.loop-i.self) (holds_of c.let_go.new.self) c.loop-i.invariant gone
