use Rattle.qs_bucket.proofs.Owed.{owed_added}
use Rattle.qs_bucket.proofs.Windows.{rule_added}
use Rattle.qs_bucket.proofs.laws.level_is_owed.Goals as goal

pub returns-clause-kept : goal.returns-clause-kept
returns-clause-kept c = owed_added

pub returns-clause-ruled : goal.returns-clause-ruled
returns-clause-ruled c = rule_added
