use Rattle.std.proofs.Common.{[], refl}
use Rattle.qs_bucket.proofs.Windows.{windows_hold}
use Rattle.qs_group.specs.Table.{unlimited, fresh}
use Rattle.qs_group.proofs.Budgets.{fresh_keeps, fresh_counts, counts_rate, counts_some, run_size, run_reading}
use Rattle.qs_group.proofs.laws.budget.Goals as goal

pub returns-clause-limits : goal.returns-clause-limits
returns-clause-limits c cs v key stands h =
    (counts_rate _ _ key.which (fresh_counts cs v key stands) h, (fresh_counts cs v key stands).bucket_is h)

pub returns-clause-no_limit : goal.returns-clause-no_limit
returns-clause-no_limit c cs v key stands none = rw none at (fresh_counts cs v key stands).rate_is

pub returns-clause-size : goal.returns-clause-size
returns-clause-size c cs v stands = run_size fresh cs v unlimited stands refl

pub returns-clause-owed : goal.returns-clause-owed
returns-clause-owed c cs v key stands h =
    (fresh_keeps cs v key stands).is_owed (counts_some _ _ key.which (fresh_counts cs v key stands) h)

pub returns-clause-windows : goal.returns-clause-windows
returns-clause-windows c cs v key t1 t2 stands later h =
    rw (← counts_rate _ _ key.which (fresh_counts cs v key stands) h, ← (fresh_counts cs v key stands).bucket_is h)
    (windows_hold _ _ _ t1 t2 later
    ((fresh_keeps cs v key stands).rule (counts_some _ _ key.which (fresh_counts cs v key stands) h)))

pub returns-clause-reading : goal.returns-clause-reading
returns-clause-reading c cs v stands = run_reading fresh cs v [] stands refl
