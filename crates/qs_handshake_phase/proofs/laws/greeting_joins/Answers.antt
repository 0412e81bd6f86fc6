use Rattle.qs_handshake_phase.proofs.Running.{greets_on}
use Rattle.qs_handshake_phase.proofs.laws.greeting_joins.Goals as goal

pub returns : goal.returns
returns c = greets_on
