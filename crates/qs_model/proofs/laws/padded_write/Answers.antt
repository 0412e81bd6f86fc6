use Rattle.qs_model.proofs.Padded.{padded_runs, padded_answers, padded_blocks}
use Rattle.qs_model.proofs.laws.padded_write.Goals as goal

pub returns : goal.returns
returns c = record { runs = padded_runs; answers = padded_answers; first = padded_blocks.0; second = padded_blocks.1 }
