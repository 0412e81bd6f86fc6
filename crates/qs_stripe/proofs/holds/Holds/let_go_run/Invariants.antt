-- The blocks so far were let go of, one after the other.
use Rattle.std.proofs.Common.{◌+◌}
use Rattle.qs_outside.specs.Runs.{InOrder}
use Rattle.qs_stripe.specs.Holds.{LetsGo, holds_of}
use Rattle.qs_stripe.proofs.holds.Holds.let_go_run.Given as goal

abbrev pub invariant-loop-i : goal.invariant-loop-i
invariant-loop-i l = InOrder (λ j. LetsGo l.k (l.b + j)) l.i (holds_of l.fn.self) (holds_of l.self)
