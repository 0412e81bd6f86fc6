use Rattle.std.proofs.Common.{rules, ◌≡◌, ℕ, ◌<◌, List, length, sym, subst, refl}
use Rattle.std.specs.Prelude.{Some, None, Ok, position}
use Rattle.std.specs.List.{remove, slice_get, slice_index_or}
use Rattle.std.proofs.lemmas.Option.{slice_get_read}
use Rattle.qs_nodes.specs.declared.node.Node.{Node}
use Rattle.qs_nodes.specs.Nodes.{first_user, has_name}
use Rattle.qs_nodes.specs.Table.{without_node, NodesValue}
use Rattle.qs_nodes.specs.Tree.{IsTree}
use Rattle.qs_nodes.proofs.Keeps.{deletes}
use Rattle.qs_nodes.proofs.nodes.Nodes.del.Goals as goal

pub invariant_of-self : goal.invariant_of-self
invariant_of-self c =
    let v : NodesValue = record { size = c.self.inside.size; nodes = c.self.inside.nodes.items; groups = c.self.inside.groups.items } in
    let n : Node = c.index.result.now in
    let i : ℕ = c.in-Some.at in
    let first : position (has_name c.args.name) v.nodes ≡ Some i = search rules in
    let within : i < length v.nodes = search rules in
    let here : n ≡ slice_index_or v.nodes i n = search rules in
    let at : slice_get v.nodes i ≡ Some n = slice_get_read v.nodes (length v.nodes) i n refl within here in
    let alone : first_user v.nodes n.place ≡ None = search rules in
    let items : c.remove.new.self.items ≡ remove v.nodes i = search rules in
    subst (λ (nodes : List Node). IsTree (record { size = c.self.inside.size; nodes = nodes; groups = c.self.inside.groups.items })) (sym items)
    (deletes v (without_node v i) c.args.name None (Ok (record {})) (i, n, (((first, at), c.if-place-eq0.false), alone, refl, refl)) c.self.invariant)

pub returns : goal.returns
returns c =
    let n : Node = c.index.result.now in
    let i : ℕ = c.in-Some.at in
    let first : position (has_name c.args.name) c.args.self.now.nodes ≡ Some i = search rules in
    let within : i < length c.args.self.now.nodes = search rules in
    let here : n ≡ slice_index_or c.args.self.now.nodes i n = search rules in
    let at : slice_get c.args.self.now.nodes i ≡ Some n = slice_get_read c.args.self.now.nodes (length c.args.self.now.nodes) i n refl within here in
    let alone : first_user c.args.self.now.nodes n.place ≡ None = search rules in
    let none : c.args.export ≡ None = search rules in
    (i, n, (((first, at), c.if-place-eq0.false), alone, none, search rules))
