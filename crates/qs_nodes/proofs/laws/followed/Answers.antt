use Rattle.qs_nodes.proofs.Follows.{follows, size_at, whole}
use Rattle.qs_nodes.proofs.laws.followed.Goals as goal

pub returns-clause-file : goal.returns-clause-file
returns-clause-file c v place n way t at kind is = whole v.size v.nodes place n way t.rooted at kind is

pub returns-clause-child : goal.returns-clause-child
returns-clause-child c v place child n way below t at next up down =
    follows v.size v.nodes place child n way below t.rooted at next up down

pub returns-clause-size : goal.returns-clause-size
returns-clause-size c v place n way at is = size_at v.nodes place n way at is
