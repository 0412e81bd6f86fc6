use Rattle.qs_nbd_handshake.proofs.Histories.{reads_sessions}
use Rattle.qs_nbd_handshake.proofs.laws.whole_sessions.Goals as goal

pub returns : goal.returns
returns c = reads_sessions
