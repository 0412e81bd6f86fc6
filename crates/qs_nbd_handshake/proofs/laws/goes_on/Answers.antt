use Rattle.qs_nbd_handshake.proofs.Going.{goes_on}
use Rattle.qs_nbd_handshake.proofs.laws.goes_on.Goals as goal

pub returns : goal.returns
returns c = goes_on
