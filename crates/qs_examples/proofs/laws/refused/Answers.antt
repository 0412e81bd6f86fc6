use Rattle.qs_examples.proofs.Examples.{refusing_runs, refusing_told}
use Rattle.qs_examples.proofs.laws.refused.Goals as goal

pub returns : goal.returns
returns c = record { runs = refusing_runs; answers = refusing_told }
