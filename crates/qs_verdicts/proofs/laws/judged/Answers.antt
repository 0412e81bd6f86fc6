use Rattle.qs_verdicts.proofs.Judged.{judged}
use Rattle.qs_verdicts.proofs.laws.judged.Goals as goal

pub returns : goal.returns
returns c = λ A o es pos run. judged A o es pos run
