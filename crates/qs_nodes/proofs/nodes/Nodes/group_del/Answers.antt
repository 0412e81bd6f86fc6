use Rattle.std.proofs.Common.{rules, ◌≡◌, refl}
use Rattle.std.specs.Prelude.{Some, None, Ok}
use Rattle.qs_nodes.specs.Nodes.{first_member, slot_of}
use Rattle.qs_nodes.specs.Table.{with_group, NodesValue}
use Rattle.qs_nodes.proofs.Keeps.{ends_group}
use Rattle.qs_nodes.proofs.nodes.Nodes.group_del.Goals as goal

pub invariant_of-self : goal.invariant_of-self
invariant_of-self c =
    let v : NodesValue = record { size = c.self.inside.size; nodes = c.self.inside.nodes.items; groups = c.self.inside.groups.items } in
    let slot : slot_of v.groups c.args.id.now ≡ Some c.in-Some.slot = search rules in
    let nobody : first_member v.nodes c.in-Some.slot ≡ None = search rules in
    ends_group v (with_group v c.in-Some.slot None) c.args.id.now (Ok (record {})) (c.in-Some.slot, (slot, nobody, refl)) c.self.invariant
