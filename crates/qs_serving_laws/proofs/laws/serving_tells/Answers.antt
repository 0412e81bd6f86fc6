use Rattle.qs_serving_laws.proofs.Storied.{story}
use Rattle.qs_serving_laws.proofs.laws.serving_tells.Goals as goal

pub returns : goal.returns
returns c = story
