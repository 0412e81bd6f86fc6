use Rattle.qs_bucket.proofs.Windows.{windows_hold}
use Rattle.qs_bucket.proofs.laws.window_law.Goals as goal

pub returns : goal.returns
returns c = windows_hold
