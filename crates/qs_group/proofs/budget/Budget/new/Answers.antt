use Rattle.qs_part.specs.declared.limits.Dim.TheVariants.{BpsTotal, BpsRead, BpsWrite, IopsTotal, IopsRead, IopsWrite}
use Rattle.qs_group.proofs.Checked.{good}
use Rattle.qs_group.proofs.budget.Budget.new.Goals as goal

pub new-requires-clause-total : goal.new-requires-clause-total
new-requires-clause-total c = good c.args.limits.now BpsTotal c.requires

pub new-requires-clause-read : goal.new-requires-clause-read
new-requires-clause-read c = good c.args.limits.now BpsRead c.requires

pub new-requires-clause-write : goal.new-requires-clause-write
new-requires-clause-write c = good c.args.limits.now BpsWrite c.requires

pub new-requires-2-clause-total : goal.new-requires-2-clause-total
new-requires-2-clause-total c = good c.args.limits.now IopsTotal c.requires

pub new-requires-2-clause-read : goal.new-requires-2-clause-read
new-requires-2-clause-read c = good c.args.limits.now IopsRead c.requires

pub new-requires-2-clause-write : goal.new-requires-2-clause-write
new-requires-2-clause-write c = good c.args.limits.now IopsWrite c.requires
