use Rattle.qs_qmp_write.proofs.Clear.{are_apart}
use Rattle.qs_qmp_write.proofs.laws.messages.Goals as goal

pub returns : goal.returns
returns c = are_apart
