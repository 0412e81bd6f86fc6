use Rattle.qs_nbd_handshake.proofs.Served.{spells_served}
use Rattle.qs_nbd_handshake.proofs.laws.one_spelling.Goals as goal

pub returns : goal.returns
returns c = spells_served
