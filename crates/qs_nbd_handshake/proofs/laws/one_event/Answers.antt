use Rattle.qs_nbd_handshake.proofs.Reading.{reads_once}
use Rattle.qs_nbd_handshake.proofs.laws.one_event.Goals as goal

pub returns : goal.returns
returns c = reads_once
