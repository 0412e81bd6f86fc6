use Rattle.qs_examples.proofs.Examples.{dropping_runs, dropping_told}
use Rattle.qs_examples.proofs.laws.dropped.Goals as goal

pub returns : goal.returns
returns c = record { runs = dropping_runs; answers = dropping_told }
