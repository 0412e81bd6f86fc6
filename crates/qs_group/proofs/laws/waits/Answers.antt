use Rattle.std.proofs.Common.{[], refl}
use Rattle.qs_group.specs.Table.{unlimited, fresh}
use Rattle.qs_group.specs.History.{last_set, admissions}
use Rattle.qs_group.proofs.Budgets.{fresh_keeps, fresh_counts, run_reading, by_admissions}
use Rattle.qs_group.proofs.laws.waits.Goals as goal

pub returns : goal.returns
returns c cs v t now w reply stands found may =
    rw (← run_reading fresh cs v [] stands refl)
    (by_admissions v (last_set unlimited cs) (λ dim. admissions dim fresh cs []) now w reply
    (record { keeps = λ key. fresh_keeps cs v key stands; counts = λ key. fresh_counts cs v key stands }) (rw found at may))
