use Rattle.qs_opening.proofs.Reading.{reads_handshakes}
use Rattle.qs_opening.proofs.laws.whole_handshakes.Goals as goal

pub returns : goal.returns
returns g c = reads_handshakes g.D.Disk.seen
