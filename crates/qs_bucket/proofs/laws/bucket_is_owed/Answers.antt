use Rattle.qs_bucket.proofs.Both.{holds_filled}
use Rattle.qs_bucket.proofs.laws.bucket_is_owed.Goals as goal

pub returns-clause-kept : goal.returns-clause-kept
returns-clause-kept c = holds_filled
