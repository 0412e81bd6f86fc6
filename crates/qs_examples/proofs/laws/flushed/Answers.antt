use Rattle.qs_examples.proofs.OtherKinds.{flushing_runs, flushing_told, flushing_clean}
use Rattle.qs_examples.proofs.laws.flushed.Goals as goal

pub returns : goal.returns
returns c = record { runs = flushing_runs; answers = flushing_told; clean = flushing_clean }
