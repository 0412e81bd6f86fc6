use Rattle.std.proofs.Common.{rules, ◌≡◌, sym, subst}
use Rattle.qs_nodes.specs.Tree.{IsRooted}
use Rattle.qs_nodes.proofs.nodes.Nodes.route_from.Goals as goal

pub way_from-requires : goal.way_from-requires
way_from-requires c =
    let items : c.deref.result.now ≡ c.self.inside.nodes.items = search rules in
    (c.self.inside.size, (c.self.invariant.whole, subst (IsRooted c.self.inside.size) (sym items) c.self.invariant.rooted))
