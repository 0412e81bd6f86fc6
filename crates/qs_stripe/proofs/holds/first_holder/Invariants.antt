-- No place so far holds the block.
use Rattle.std.proofs.Common.{ℕ, ◌<◌}
use Rattle.qs_stripe.specs.Holds.{IsHeld, holds_of}
use Rattle.qs_stripe.proofs.holds.first_holder.Given as goal

abbrev pub invariant-loop-j : goal.invariant-loop-j
invariant-loop-j l = (i : ℕ) → i < l.j → IsHeld (holds_of l.places) i l.b → ⊥
