use Rattle.qs_alone.proofs.Served.{served as law}
use Rattle.qs_alone.proofs.laws.served.Goals as goal

pub returns : goal.returns
returns c = λ A o before r c' front e v pos alone is. law A o before r c' front e v pos alone is
