use Rattle.qs_durable.proofs.Durable.{durable as law}
use Rattle.qs_durable.proofs.laws.durable.Goals as goal

pub returns : goal.returns
returns c = λ A o es pos told settled run. law A o es pos told settled run
