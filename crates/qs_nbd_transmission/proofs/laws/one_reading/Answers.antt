use Rattle.qs_nbd_transmission.proofs.Streams.{one_reading}
use Rattle.qs_nbd_transmission.proofs.laws.one_reading.Goals as goal

pub returns : goal.returns
returns c = one_reading
