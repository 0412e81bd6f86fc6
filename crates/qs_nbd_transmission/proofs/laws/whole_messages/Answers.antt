use Rattle.qs_nbd_transmission.proofs.Streams.{tells_messages}
use Rattle.qs_nbd_transmission.proofs.laws.whole_messages.Goals as goal

pub returns : goal.returns
returns c = tells_messages
