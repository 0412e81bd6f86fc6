use Rattle.qs_group.proofs.Rounds.{fresh_sound, one_served}
use Rattle.qs_group.proofs.laws.turns.Goals as goal

pub returns : goal.returns
returns c cs v d t stands waits = one_served v d t (fresh_sound cs v stands) waits
