use Rattle.qs_nbd_transmission.proofs.Reading.{reaches_on}
use Rattle.qs_nbd_transmission.proofs.laws.any_cutting.Goals as goal

pub returns : goal.returns
returns c = reaches_on
