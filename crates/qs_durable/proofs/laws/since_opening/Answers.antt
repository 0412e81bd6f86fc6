use Rattle.qs_durable.proofs.Syncs.{since_opening as law}
use Rattle.qs_durable.proofs.laws.since_opening.Goals as goal

pub returns : goal.returns
returns c = λ A o es pos told single run. law A o es pos told single run
