use Rattle.std.proofs.Common.{rules, ◌≡◌, ℕ, ◌<◌, length, sym, subst, refl, ap, ◌∙◌}
use Rattle.std.specs.Prelude.{Some, None, Ok, position}
use Rattle.std.specs.List.{slice_get, slice_index_or}
use Rattle.std.proofs.lemmas.Option.{slice_get_read}
use Rattle.qs_nodes.specs.declared.node.Kind.TheVariants.{Raw}
use Rattle.qs_nodes.specs.declared.node.Node.{Node}
use Rattle.qs_nodes.specs.Nodes.{has_name, named, raw_child, resized_user, shown, Lies}
use Rattle.qs_nodes.specs.Table.{set_node, NodesValue}
use Rattle.qs_nodes.specs.Tree.{IsTree}
use Rattle.qs_nodes.proofs.Keeps.{reopens_raw}
use Rattle.qs_nodes.proofs.nodes.Nodes.reopen_raw.Goals as goal

pub set-requires-clause-tree : goal.set-requires-clause-tree
set-requires-clause-tree c =
    let v : NodesValue = c.args.self.now in
    let n : Node = c.index.result.now in
    let i : ℕ = c.in-Some.at in
    let below : Node = c.in-Some-named.below in
    let first : position (has_name c.args.name) v.nodes ≡ Some i = search rules in
    let within : i < length v.nodes = search rules in
    let here : n ≡ slice_index_or v.nodes i n = search rules in
    let at : slice_get v.nodes i ≡ Some n = slice_get_read v.nodes (length v.nodes) i n refl within here in
    let found : named v.nodes c.args.child ≡ Some below = search rules in
    let child : raw_child n.kind ≡ Some below.place = search rules in
    let lies : Lies below.size c.args.offset c.args.size = search rules in
    let bytes : c.in-Some-part_of.bytes ≡ shown below.size c.args.offset c.args.size = search rules in
    let told : resized_user v.nodes n c.in-Some-part_of.bytes c.args.export ≡ None = search rules in
    let none : resized_user v.nodes n (shown below.size c.args.offset c.args.size) c.args.export ≡ None =
    subst (λ (s : ℕ). resized_user v.nodes n s c.args.export ≡ None) bytes told in
    let set_to : ℕ → NodesValue = λ s. set_node v i (record n { size = s; kind = Raw below.place c.args.offset }) in
    subst (λ (s : ℕ). IsTree (set_to s)) (sym bytes)
    (reopens_raw v (set_to (shown below.size c.args.offset c.args.size)) c.args.name c.args.child c.args.offset c.args.size c.args.export
    (Ok (record {})) (i, n, below, ((((first, at), found), child, lies), none, refl)) (subst IsTree c.self.view_is c.self.invariant))

pub returns : goal.returns
returns c =
    let v : NodesValue = c.args.self.now in
    let n : Node = c.index.result.now in
    let i : ℕ = c.in-Some.at in
    let below : Node = c.in-Some-named.below in
    let first : position (has_name c.args.name) v.nodes ≡ Some i = search rules in
    let within : i < length v.nodes = search rules in
    let here : n ≡ slice_index_or v.nodes i n = search rules in
    let at : slice_get v.nodes i ≡ Some n = slice_get_read v.nodes (length v.nodes) i n refl within here in
    let found : named v.nodes c.args.child ≡ Some below = search rules in
    let child : raw_child n.kind ≡ Some below.place = search rules in
    let lies : Lies below.size c.args.offset c.args.size = search rules in
    let bytes : c.in-Some-part_of.bytes ≡ shown below.size c.args.offset c.args.size = search rules in
    let told : resized_user v.nodes n c.in-Some-part_of.bytes c.args.export ≡ None = search rules in
    let none : resized_user v.nodes n (shown below.size c.args.offset c.args.size) c.args.export ≡ None =
    subst (λ (s : ℕ). resized_user v.nodes n s c.args.export ≡ None) bytes told in
    let set_to : ℕ → NodesValue = λ s. set_node v i (record n { size = s; kind = Raw below.place c.args.offset }) in
    let new : c.set.new.self ≡ set_to c.in-Some-part_of.bytes = search rules in
    (i, n, below, ((((first, at), found), child, lies), none, new ∙ ap set_to bytes))
