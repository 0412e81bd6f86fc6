use Rattle.qs_task.proofs.Waiting.{rows_of_waits}
use Rattle.qs_task.proofs.laws.waits.Goals as goal

pub returns-clause-same : goal.returns-clause-same
returns-clause-same c = rows_of_waits
