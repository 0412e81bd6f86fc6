use Rattle.std.proofs.Common.{rules, ◌≡◌, ℕ, ◌<◌, List, [], ◌∷◌, ◌++◌, sym, subst, refl}
use Rattle.std.specs.Prelude.{Some, None, Ok}
use Rattle.qs_nodes.specs.declared.node.Node.{Node}
use Rattle.qs_nodes.specs.Nodes.{named, slot_of, LowestFree}
use Rattle.qs_nodes.specs.Table.{throttle, with_node, NodesValue}
use Rattle.qs_nodes.specs.Tree.{IsTree}
use Rattle.qs_nodes.proofs.Keeps.{adds_throttle}
use Rattle.qs_nodes.proofs.nodes.Nodes.add_throttle.Goals as goal

pub invariant_of-self-2 : goal.invariant_of-self-2
invariant_of-self-2 c =
    let v : NodesValue = record { size = c.self.inside.size; nodes = c.self.inside.nodes.items; groups = c.self.inside.groups.items } in
    let below : Node = c.in-Some-named.below in
    let place : ℕ = c.in-Some-lowest_free.place in
    let slot : ℕ = c.in-Some-slot_of.slot in
    let new : named v.nodes c.args.name ≡ None = search rules in
    let at : named v.nodes c.args.child ≡ Some below = search rules in
    let group : slot_of v.groups c.args.group.now ≡ Some slot = search rules in
    let deep : below.depth < 8 = search rules in
    let free : LowestFree v.nodes (Some place) = search rules in
    let items : c.push.new.self.items ≡ v.nodes ++ throttle c.args.name place below slot c.args.read_only ∷ [] = search rules in
    subst (λ (nodes : List Node). IsTree (record { size = c.self.inside.size; nodes = nodes; groups = c.self.inside.groups.items })) (sym items)
    (adds_throttle v (with_node v (throttle c.args.name place below slot c.args.read_only)) c.args.name c.args.child c.args.group.now
    c.args.read_only (Ok place) (below, slot, (((new, at), group), deep, free, refl)) c.self.invariant)
