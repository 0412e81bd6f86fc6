use Rattle.qs_model.proofs.Headline.{besides}
use Rattle.qs_model.proofs.laws.besides.Goals as goal

pub returns : goal.returns
returns c = λ A o es pos run. besides A o es pos run
