use Rattle.qs_nbd_wire.proofs.Spelling.{spells_options}
use Rattle.qs_nbd_wire.proofs.laws.one_option.Goals as goal

pub returns : goal.returns
returns c = spells_options
