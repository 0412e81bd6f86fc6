use Rattle.qs_same_replay.proofs.Functions.{same_replays}
use Rattle.qs_same_replay.proofs.laws.one_replay.Goals as goal

pub returns : goal.returns
returns g c = λ disks left sent result after left' sent' one others sent2 result' others1 left2 sent3 two compared. same_replays one two compared
