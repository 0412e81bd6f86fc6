use Rattle.qs_model.proofs.Headline.{headline}
use Rattle.qs_model.proofs.laws.headline.Goals as goal

pub returns : goal.returns
returns c = λ A o es pos run. headline A o es pos run
