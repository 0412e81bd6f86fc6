use Rattle.qs_nbd_transmission.proofs.ReplyLaws.{replies_stand_apart}
use Rattle.qs_nbd_transmission.proofs.laws.replies_apart.Goals as goal

pub returns : goal.returns
returns c = replies_stand_apart
