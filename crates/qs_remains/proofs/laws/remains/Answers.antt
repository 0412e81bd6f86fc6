use Rattle.qs_remains.proofs.Remains.{remains as law}
use Rattle.qs_remains.proofs.laws.remains.Goals as goal

pub returns : goal.returns
returns c = λ A o before r client front e v pos told alone is. law A o before r client front e v pos told alone is
