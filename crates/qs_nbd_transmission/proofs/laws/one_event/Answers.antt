use Rattle.qs_nbd_transmission.proofs.Reading.{reads_once}
use Rattle.qs_nbd_transmission.proofs.laws.one_event.Goals as goal

pub returns : goal.returns
returns c = reads_once
