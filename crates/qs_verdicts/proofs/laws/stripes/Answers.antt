use Rattle.qs_verdicts.proofs.Stripes.{touches_is}
use Rattle.qs_verdicts.proofs.laws.stripes.Goals as goal

pub returns : goal.returns
returns c = λ first final s order small. touches_is first final s order small
