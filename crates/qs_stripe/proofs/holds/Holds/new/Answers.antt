use Rattle.std.proofs.Common.{◌≡◌, replicate, sym, subst, arith}
use Rattle.std.proofs.lemmas.List.{length-replicate}
use Rattle.qs_stripe.specs.Holds.{EmptyFrom, no_ends}
use Rattle.qs_stripe.proofs.HoldLists.{all_empty, holds_of-replicate}
use Rattle.qs_stripe.proofs.holds.Holds.new.Goals as goal

pub returns-in-Ok : goal.returns-in-Ok
returns-in-Ok c = λ k side. rw (c.in-Ok.ensures.items_if_clones_equal (λ y same. same)) (holds_of-replicate 256 k side)

pub invariant_of-result : goal.invariant_of-result
invariant_of-result c =
    let is : c.in-Ok.places.items ≡ replicate 256 no_ends = c.in-Ok.ensures.items_if_clones_equal (λ y same. same) in
    (rw is (length-replicate 256 no_ends), omega arith, subst (EmptyFrom 0) (sym is) (all_empty 256))
