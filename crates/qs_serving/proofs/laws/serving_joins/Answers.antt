use Rattle.qs_serving.proofs.Running.{serves_on}
use Rattle.qs_serving.proofs.laws.serving_joins.Goals as goal

pub returns : goal.returns
returns c = serves_on
