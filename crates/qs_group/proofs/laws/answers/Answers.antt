use Rattle.qs_group.proofs.Rounds.{fresh_sound}
use Rattle.qs_group.proofs.Answered.{answered}
use Rattle.qs_group.proofs.Unique.{answer_one}
use Rattle.qs_group.proofs.laws.answers.Goals as goal

pub returns-clause-one : goal.returns-clause-one
returns-clause-one c cs v op first second stands a b = answer_one v op first second (fresh_sound cs v stands) a b

pub returns-clause-answered : goal.returns-clause-answered
returns-clause-answered c cs v op stands = answered v op (fresh_sound cs v stands)
