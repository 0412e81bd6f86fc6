use Rattle.qs_stripe.proofs.RunSingles.{singles-stand}
use Rattle.qs_stripe.proofs.run_laws.runs_are_singles.Goals as goal

pub returns : goal.returns
returns c opening cs v stands = singles-stand opening cs v stands
