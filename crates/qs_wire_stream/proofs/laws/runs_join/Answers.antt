use Rattle.qs_wire_stream.proofs.Advancing.{advanced_on}
use Rattle.qs_wire_stream.proofs.laws.runs_join.Goals as goal

pub returns : goal.returns
returns c = advanced_on
