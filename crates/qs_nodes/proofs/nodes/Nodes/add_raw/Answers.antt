use Rattle.std.proofs.Common.{rules, ◌≡◌, ℕ, List, [], ◌∷◌, ◌++◌, sym, subst, refl}
use Rattle.std.specs.Prelude.{Some, None, Ok}
use Rattle.qs_nodes.specs.declared.node.Node.{Node}
use Rattle.qs_nodes.specs.Nodes.{named, Lies, LowestFree}
use Rattle.qs_nodes.specs.Table.{raw, with_node, NodesValue}
use Rattle.qs_nodes.specs.Tree.{IsTree}
use Rattle.qs_nodes.proofs.Keeps.{adds_raw}
use Rattle.qs_nodes.proofs.nodes.Nodes.add_raw.Goals as goal

pub invariant_of-self-2 : goal.invariant_of-self-2
invariant_of-self-2 c =
    let v : NodesValue = record { size = c.self.inside.size; nodes = c.self.inside.nodes.items; groups = c.self.inside.groups.items } in
    let below : Node = c.in-Some-named.below in
    let place : ℕ = c.in-Some-lowest_free.place in
    let new : named v.nodes c.args.name ≡ None = search rules in
    let at : named v.nodes c.args.child ≡ Some below = search rules in
    let lies : Lies below.size c.args.offset c.args.size = search rules in
    let free : LowestFree v.nodes (Some place) = search rules in
    let items : c.push.new.self.items ≡ v.nodes ++ raw c.args.name place below c.args.offset c.args.size c.args.read_only ∷ [] = search rules in
    subst (λ (nodes : List Node). IsTree (record { size = c.self.inside.size; nodes = nodes; groups = c.self.inside.groups.items })) (sym items)
    (adds_raw v (with_node v (raw c.args.name place below c.args.offset c.args.size c.args.read_only)) c.args.name c.args.child c.args.offset
    c.args.size c.args.read_only (Ok place) (below, ((new, at), lies, free, refl)) c.self.invariant)
