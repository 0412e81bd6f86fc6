use Rattle.qs_tracker.proofs.Sound.{lowest_one, lowest_starts}
use Rattle.qs_tracker.proofs.laws.lowest.Goals as goal

pub returns-clause-one : goal.returns-clause-one
returns-clause-one c first cs v k l stands h = lowest_one v k l h

pub returns-clause-starts : goal.returns-clause-starts
returns-clause-starts c first cs v k l stands low = lowest_starts v k l low
