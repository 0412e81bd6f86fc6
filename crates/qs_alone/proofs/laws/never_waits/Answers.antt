use Rattle.qs_alone.proofs.Waits.{never_waits as law}
use Rattle.qs_alone.proofs.laws.never_waits.Goals as goal

pub returns : goal.returns
returns c = λ A o before r c' steps pos alone front e at waits. law A o before r c' steps pos alone front e at waits
