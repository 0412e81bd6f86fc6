use Rattle.std.proofs.Common.{◌≡◌, List, [], ◌∷◌, ◌++◌, ap, ◌∙◌, subst}
use Rattle.qs_outside.specs.Journal.{Journal}
use Rattle.qs_part.specs.declared.runs.StripeAnswer.{StripeAnswer}
use Rattle.qs_part.specs.declared.runs.StripeCall.{StripeCall}
use Rattle.qs_part.specs.Histories.{Call, call, lawful, StandsFor}
use Rattle.qs_stripe.specs.Runs.{FitsCall}
use Rattle.qs_stripe.specs.Table.{StripeState}
use Rattle.qs_turn.specs.Orders.{Merges}
use Rattle.qs_turn.specs.Words.{seen, own}
use Rattle.qs_turn_uses.specs.Stripes.{stripe_answers, stripe_fixed}
use Rattle.qs_turn_uses.proofs.Holding.{held_in_turn}
use Rattle.qs_turn_uses.proofs.stripes.two_by_two.Goals as goal

pub returns : goal.returns
returns g c =
    let cs : List (Call StripeCall StripeAnswer) = seen c.join.new.pass in
    let ours : List (Call StripeCall StripeAnswer) = call 1 c.args.ours.0 c.join-one.result.0.0.0 ∷ call 1 c.args.ours.1 c.join-one.result.0.0.1 ∷ [] in
    let theirs : List (Call StripeCall StripeAnswer) = call 2 c.args.theirs.0 c.join-one.result.1.0.0 ∷ call 2 c.args.theirs.1 c.join-one.result.1.0.1 ∷ [] in
    let one : own c.join-one.result.0.1 ≡ ours = c.join-one.ensures.first.owns ∙ ap (λ (l : List (Call StripeCall StripeAnswer)). l ++ ours) (c.split-other.ensures.first.2 ∙ c.in_ok-turn.ensures.first.2) in
    let two : own c.join-one.result.1.1 ≡ theirs = c.join-one.ensures.second.owns ∙ ap (λ (l : List (Call StripeCall StripeAnswer)). l ++ theirs) c.split-other.ensures.given.2 in
    let both : Merges ours theirs cs =
    subst (λ (l : List (Call StripeCall StripeAnswer)). Merges l theirs cs) one (subst (λ (l : List (Call StripeCall StripeAnswer)). Merges (own c.join-one.result.0.1) l cs) two
    (subst (λ (l : List (Call StripeCall StripeAnswer)). Merges (own c.join-one.result.0.1) (own c.join-one.result.1.1) l) c.close.ensures.own c.join.ensures.joined.both)) in
    let stands : StandsFor (lawful stripe_fixed FitsCall stripe_answers) c.args.stripe cs c.close.result =
    subst (λ (o : StripeState Journal). StandsFor (lawful stripe_fixed FitsCall stripe_answers) o cs c.close.result) c.in_ok-turn.ensures.turn.0 c.close.ensures.part in
    (cs, stands, both, held_in_turn c.held_in_runs.ensures c.args.stripe cs c.close.result stands)
