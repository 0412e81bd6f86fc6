use Rattle.qs_nbd_handshake.proofs.Naming.{named}
use Rattle.qs_nbd_handshake.proofs.inquiry.name.Goals as goal

pub returns : goal.returns
returns c = named _ _ c.of.ensures
