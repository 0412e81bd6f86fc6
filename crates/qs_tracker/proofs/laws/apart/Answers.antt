use Rattle.qs_tracker.proofs.Sound.{fresh_stands, goes_apart}
use Rattle.qs_tracker.proofs.laws.apart.Goals as goal

pub returns-clause-apart : goal.returns-clause-apart
returns-clause-apart c first cs v j k l m stands a b conflict =
    goes_apart v j k l m (fresh_stands first cs v stands) a b conflict

pub returns-clause-clear : goal.returns-clause-clear
returns-clause-clear c first cs v k l stands a = (fresh_stands first cs v stands).clear k l a
