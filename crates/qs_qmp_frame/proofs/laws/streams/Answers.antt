use Rattle.qs_qmp_frame.proofs.Cutting.{cuts_streams}
use Rattle.qs_qmp_frame.proofs.laws.streams.Goals as goal

pub returns : goal.returns
returns c = cuts_streams
