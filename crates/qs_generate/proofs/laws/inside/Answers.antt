use Rattle.qs_generate.proofs.Following.{inside}
use Rattle.qs_generate.proofs.laws.inside.Goals as goal

pub returns : goal.returns
returns c = inside
