use Rattle.std.proofs.Common.{◌≡◌, ◌+◌, ◌∙◌, subst, inl, inr, arith}
use Rattle.std.proofs.lemmas.Bool.{cases_lt}
use Rattle.qs_stripe.specs.Holds.{IsFreeFor, holds_of}
use Rattle.qs_stripe.proofs.holds.Holds.first_held.Goals as goal

pub loop-i-preserved : goal.loop-i-preserved
loop-i-preserved c = λ i below. elim (cases_lt i c.loop-i.i) [
  | inl before ↦ c.loop-i.invariant i before
  | inr past ↦
      let same : c.from.result ≡ i = c.from.ensures ∙ omega (arith, past, below) in
      subst (λ n. IsFreeFor (holds_of c.args.self.now) c.args.k (c.args.b + n)) same c.in-None.ensures
]

pub returns : goal.returns
returns c = λ i below. c.loop-i.invariant i (omega (arith, below, c.loop-i-test.false))
