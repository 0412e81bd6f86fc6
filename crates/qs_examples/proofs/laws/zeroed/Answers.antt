use Rattle.qs_examples.proofs.OtherKinds.{zeroing_runs, zeroing_told, zeroing_past}
use Rattle.qs_examples.proofs.laws.zeroed.Goals as goal

pub returns : goal.returns
returns c = record { runs = zeroing_runs; answers = zeroing_told; left = zeroing_past }
