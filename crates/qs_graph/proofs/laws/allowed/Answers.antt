use Rattle.qs_graph.proofs.Sound.{stands_allowed}
use Rattle.qs_graph.proofs.laws.allowed.Goals as goal

pub returns : goal.returns
returns c size file read_only cs v stands = stands_allowed size file read_only cs v stands
