use Rattle.std.proofs.Common.{rules, ◌≡◌, ℕ, ◌<◌, length, subst, refl}
use Rattle.std.specs.Prelude.{Some, Ok, position}
use Rattle.std.specs.List.{slice_get, slice_index_or}
use Rattle.std.proofs.lemmas.Option.{slice_get_read}
use Rattle.qs_nodes.specs.declared.node.Kind.TheVariants.{Throttle}
use Rattle.qs_nodes.specs.declared.node.Node.{Node}
use Rattle.qs_nodes.specs.Nodes.{has_name, named, slot_of, throttle_child}
use Rattle.qs_nodes.specs.Table.{set_node, NodesValue}
use Rattle.qs_nodes.specs.Tree.{IsTree}
use Rattle.qs_nodes.proofs.Keeps.{reopens_throttle}
use Rattle.qs_nodes.proofs.nodes.Nodes.reopen_throttle.Goals as goal

pub set-requires-clause-tree : goal.set-requires-clause-tree
set-requires-clause-tree c =
    let v : NodesValue = c.args.self.now in
    let n : Node = c.index.result.now in
    let i : ℕ = c.in-Some.at in
    let below : Node = c.in-Some-named.below in
    let first : position (has_name c.args.name) v.nodes ≡ Some i = search rules in
    let within : i < length v.nodes = search rules in
    let here : n ≡ slice_index_or v.nodes i n = search rules in
    let at : slice_get v.nodes i ≡ Some n = slice_get_read v.nodes (length v.nodes) i n refl within here in
    let found : named v.nodes c.args.child ≡ Some below = search rules in
    let child : throttle_child n.kind ≡ Some below.place = search rules in
    let group : slot_of v.groups c.args.group.now ≡ Some c.in-Some-slot_of.slot = search rules in
    let new : NodesValue = set_node v i (record n { kind = Throttle below.place c.in-Some-slot_of.slot }) in
    reopens_throttle v new c.args.name c.args.child c.args.group.now (Ok (record {}))
    (i, n, below, c.in-Some-slot_of.slot, ((((first, at), found), child), group, refl)) (subst IsTree c.self.view_is c.self.invariant)

pub returns : goal.returns
returns c =
    let v : NodesValue = c.args.self.now in
    let n : Node = c.index.result.now in
    let i : ℕ = c.in-Some.at in
    let below : Node = c.in-Some-named.below in
    let first : position (has_name c.args.name) v.nodes ≡ Some i = search rules in
    let within : i < length v.nodes = search rules in
    let here : n ≡ slice_index_or v.nodes i n = search rules in
    let at : slice_get v.nodes i ≡ Some n = slice_get_read v.nodes (length v.nodes) i n refl within here in
    let found : named v.nodes c.args.child ≡ Some below = search rules in
    let child : throttle_child n.kind ≡ Some below.place = search rules in
    let group : slot_of v.groups c.args.group.now ≡ Some c.in-Some-slot_of.slot = search rules in
    let new : c.set.new.self ≡ set_node v i (record n { kind = Throttle below.place c.in-Some-slot_of.slot }) = search rules in
    (i, n, below, c.in-Some-slot_of.slot, ((((first, at), found), child), group, new))
