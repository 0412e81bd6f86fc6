use Rattle.qs_stripe.proofs.laws.clean.Goals as goal
use Rattle.qs_stripe.proofs.Cleaned.{clean_in}

-- src/laws.rt
pub returns : goal.returns
returns c = clean_in
