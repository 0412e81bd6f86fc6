use Rattle.std.proofs.Common.{ℕ, ◌+◌, ◌<◌, subst}
use Rattle.qs_stripe.specs.Holds.{IsFreeFor, holds_of}
use Rattle.qs_stripe.proofs.stripe.Stripe.store_run.Goals as goal

pub store_whole-requires-clause-free : goal.store_whole-requires-clause-free
store_whole-requires-clause-free g c =
    subst (λ s. (i : ℕ) → i < c.args.n → IsFreeFor (holds_of s.places) c.args.k (c.args.b + i)) c.self.view_is c.in-None.ensures
