use Rattle.qs_nbd_wire.proofs.Spelling.{spells_flags}
use Rattle.qs_nbd_wire.proofs.laws.one_flags.Goals as goal

pub returns : goal.returns
returns c = spells_flags
