use Rattle.qs_remains.proofs.Remains.{clean_settled as law}
use Rattle.qs_remains.proofs.laws.clean_settled.Goals as goal

pub returns : goal.returns
returns c = λ A w es clean. law A w es clean
