use Rattle.qs_script.proofs.OneLine.{one_line}
use Rattle.qs_script.proofs.laws.one_line.Goals as goal

pub returns : goal.returns
returns c = one_line
