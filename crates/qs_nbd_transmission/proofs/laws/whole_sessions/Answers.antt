use Rattle.qs_nbd_transmission.proofs.Histories.{reads_sessions}
use Rattle.qs_nbd_transmission.proofs.laws.whole_sessions.Goals as goal

pub returns : goal.returns
returns c = reads_sessions
