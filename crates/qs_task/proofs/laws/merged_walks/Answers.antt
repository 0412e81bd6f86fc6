use Rattle.qs_task.proofs.Telling.{merged}
use Rattle.qs_task.proofs.laws.merged_walks.Goals as goal

pub returns : goal.returns
returns c = merged
