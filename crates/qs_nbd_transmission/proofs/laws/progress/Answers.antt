use Rattle.qs_nbd_transmission.proofs.Reading.{need_falls}
use Rattle.qs_nbd_transmission.proofs.laws.progress.Goals as goal

pub returns : goal.returns
returns c = need_falls
