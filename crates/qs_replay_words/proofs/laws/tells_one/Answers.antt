-- Words tell one thing at most.
use Rattle.qs_replay_words.proofs.FromLeft.{tells_one as one}
use Rattle.qs_replay_words.proofs.laws.tells_one.Goals as goal

pub returns : goal.returns
returns c = one
