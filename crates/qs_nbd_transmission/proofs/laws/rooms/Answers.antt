use Rattle.qs_nbd_transmission.proofs.Reading.{asks_room}
use Rattle.qs_nbd_transmission.proofs.laws.rooms.Goals as goal

pub returns : goal.returns
returns c = asks_room
