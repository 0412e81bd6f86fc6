use Rattle.qs_stripe.proofs.HeldThrough.{held_in}
use Rattle.qs_stripe.proofs.laws.held.Goals as goal

pub returns : goal.returns
returns c opening cs v stands = held_in opening cs v stands
