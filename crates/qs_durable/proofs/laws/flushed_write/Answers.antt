use Rattle.qs_durable.proofs.Example.{flush_runs, flush_reached, lost_after}
use Rattle.qs_durable.proofs.laws.flushed_write.Goals as goal

pub returns : goal.returns
returns c = record { runs = flush_runs; bound = flush_reached; kept = lost_after }
