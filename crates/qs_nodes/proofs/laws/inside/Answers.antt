use Rattle.qs_nodes.proofs.Inside.{every_way}
use Rattle.qs_nodes.proofs.laws.inside.Goals as goal

pub returns : goal.returns
returns c v place way t is = every_way v.size v.nodes place way t.rooted is
