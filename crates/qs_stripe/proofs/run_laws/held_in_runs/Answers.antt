use Rattle.qs_stripe.proofs.RunSingles.{held-in-calls}
use Rattle.qs_stripe.proofs.run_laws.held_in_runs.Goals as goal

pub returns : goal.returns
returns c opening cs v stands = held-in-calls opening cs v stands
