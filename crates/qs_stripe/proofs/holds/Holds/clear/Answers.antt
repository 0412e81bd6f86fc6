use Rattle.std.proofs.Common.{◌≡◌, replicate, rules, sym, subst, arith}
use Rattle.qs_stripe.specs.Holds.{EmptyFrom, no_ends}
use Rattle.qs_stripe.proofs.HoldLists.{all_empty, holds_of-replicate}
use Rattle.qs_stripe.proofs.holds.Holds.clear.Goals as goal

pub returns : goal.returns
returns c = λ k side.
    let is : c.fill.new.self.items ≡ replicate 256 no_ends = search rules in
    rw is (holds_of-replicate 256 k side)

pub invariant_of-self : goal.invariant_of-self
invariant_of-self c =
    let is : c.fill.new.self.items ≡ replicate 256 no_ends = search rules in
    (search rules, omega arith, subst (EmptyFrom 0) (sym is) (all_empty 256))
