use Rattle.qs_examples.proofs.OtherKinds.{trimming_runs, trimming_told}
use Rattle.qs_examples.proofs.laws.trim_refused.Goals as goal

pub returns : goal.returns
returns c = record { runs = trimming_runs; answers = trimming_told }
