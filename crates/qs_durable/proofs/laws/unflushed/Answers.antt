use Rattle.qs_durable.proofs.Example.{lost_before, older as is_older}
use Rattle.qs_durable.proofs.laws.unflushed.Goals as goal

pub returns : goal.returns
returns c = record { runs = lost_before; older = is_older }
