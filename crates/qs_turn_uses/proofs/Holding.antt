-- The law of holds, for the histories of a turn of a stripe.
use Rattle.std.proofs.Common.{List}
use Rattle.qs_part.specs.declared.runs.StripeAnswer.{StripeAnswer}
use Rattle.qs_part.specs.declared.runs.StripeCall.{StripeCall}
use Rattle.qs_part.specs.Histories.{Call, lawful, StandsFor}
use Rattle.qs_part.proofs.Histories.{stands_meaning}
use Rattle.qs_outside.specs.Journal.{Journal}
use Rattle.qs_stripe.specs.Table.{StripeState, StripeValue, geometry}
use Rattle.qs_stripe.specs.History.{HeldIn}
use Rattle.qs_stripe.specs.Runs.{FitsCall, all_singles, call_answers}
use Rattle.qs_turn_uses.specs.Stripes.{meaning, stripe_fixed, stripe_answers}

-- what the stripe's own law says
abbrev pub Held : Type 0
Held = (opening : StripeValue) (cs : List (Call StripeCall StripeAnswer)) (v : StripeValue)
    → StandsFor (lawful geometry FitsCall call_answers) opening cs v → HeldIn (all_singles opening.disk.align cs)

-- what was seen of a turn of a stripe keeps the law
pub held_in_turn : Held → (s : StripeState Journal) (cs : List (Call StripeCall StripeAnswer)) (t : StripeState Journal)
    → StandsFor (lawful stripe_fixed FitsCall stripe_answers) s cs t → HeldIn (all_singles (stripe_fixed s).align cs)
held_in_turn law s cs t stands = law (meaning s) cs (meaning t) (stands_meaning meaning geometry FitsCall call_answers s cs t stands)
