use Rattle.qs_examples.proofs.Examples.{failing_runs, failing_told, failing_blocks}
use Rattle.qs_examples.proofs.laws.failed_write.Goals as goal

pub returns : goal.returns
returns c = record { runs = failing_runs; answers = failing_told; first_block = failing_blocks.0; second_block = failing_blocks.1 }
