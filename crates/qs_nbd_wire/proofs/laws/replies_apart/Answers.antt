use Rattle.qs_nbd_wire.proofs.Spelling.{replies_stand_apart}
use Rattle.qs_nbd_wire.proofs.laws.replies_apart.Goals as goal

pub returns : goal.returns
returns c = replies_stand_apart
