use Rattle.qs_qmp_frame.proofs.Calls.{joins_pieces}
use Rattle.qs_qmp_frame.proofs.laws.any_cutting.Goals as goal

pub returns : goal.returns
returns c = joins_pieces
