use Rattle.qs_nbd_wire.proofs.Spelling.{answers_stand_apart}
use Rattle.qs_nbd_wire.proofs.laws.answers_apart.Goals as goal

pub returns : goal.returns
returns c = answers_stand_apart
