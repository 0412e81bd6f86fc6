use Rattle.qs_nbd_handshake.proofs.Reading.{joins_pieces}
use Rattle.qs_nbd_handshake.proofs.laws.any_cutting.Goals as goal

pub returns : goal.returns
returns c = joins_pieces
