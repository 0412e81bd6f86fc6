use Rattle.qs_graph.specs.Exports.{standing}
use Rattle.qs_graph.proofs.Pairs.{allowed_apart, pair_of}
use Rattle.qs_graph.proofs.Sound.{stands_allowed}
use Rattle.qs_graph.proofs.laws.first_pair.Goals as goal

pub returns : goal.returns
returns c size file read_only cs v new stands =
    pair_of (standing v.places) new (allowed_apart v (stands_allowed size file read_only cs v stands))
