use Rattle.qs_nbd_handshake.proofs.OneWay.{reads_one_way}
use Rattle.qs_nbd_handshake.proofs.laws.one_reading.Goals as goal

pub returns : goal.returns
returns c = reads_one_way
