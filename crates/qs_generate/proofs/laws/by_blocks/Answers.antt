use Rattle.qs_generate.proofs.Weights.{by_blocks}
use Rattle.qs_generate.proofs.laws.by_blocks.Goals as goal

pub returns : goal.returns
returns c = by_blocks
