-- The product's upper part is gone before the sum.
use Rattle.qs_generate.proofs.Following.{first_state}
use Rattle.qs_generate.proofs.draws.next_state.Goals as goal

pub returns : goal.returns
returns c = first_state c.args.state
