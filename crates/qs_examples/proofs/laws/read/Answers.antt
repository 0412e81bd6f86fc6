use Rattle.qs_examples.proofs.Examples.{reading_runs, reading_told}
use Rattle.qs_examples.proofs.laws.read.Goals as goal

pub returns : goal.returns
returns c = record { runs = reading_runs; answers = reading_told }
