use Rattle.qs_remains.proofs.Remains.{flushed as law}
use Rattle.qs_remains.proofs.laws.flushed.Goals as goal

pub returns : goal.returns
returns c = λ A o before r client front e pos told clean flush alone is. law A o before r client front e pos told clean flush alone is
