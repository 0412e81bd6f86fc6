use Rattle.qs_nbd_wire.proofs.Requests.{spells_heads}
use Rattle.qs_nbd_wire.proofs.laws.one_head.Goals as goal

pub returns : goal.returns
returns c = spells_heads
