-- No other place holds a block so far.
use Rattle.std.proofs.Common.{ℕ, ◌+◌, ◌<◌}
use Rattle.qs_stripe.specs.Holds.{IsFreeFor, holds_of}
use Rattle.qs_stripe.proofs.holds.Holds.first_held.Given as goal

abbrev pub invariant-loop-i : goal.invariant-loop-i
invariant-loop-i l = (i : ℕ) → i < l.i → IsFreeFor (holds_of l.self) l.k (l.b + i)
