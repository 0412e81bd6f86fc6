use Rattle.qs_nbd_transmission.proofs.Streams.{rests_begin}
use Rattle.qs_nbd_transmission.proofs.laws.rests.Goals as goal

pub returns : goal.returns
returns c = rests_begin
