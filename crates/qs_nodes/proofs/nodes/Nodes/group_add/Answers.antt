use Rattle.std.proofs.Common.{rules, ◌≡◌, refl}
use Rattle.std.specs.Prelude.{Some, None, Ok}
use Rattle.qs_nodes.specs.Nodes.{free_slot, slot_of}
use Rattle.qs_nodes.specs.Table.{with_group, NodesValue}
use Rattle.qs_nodes.proofs.Keeps.{adds_group}
use Rattle.qs_nodes.proofs.nodes.Nodes.group_add.Goals as goal

pub invariant_of-self : goal.invariant_of-self
invariant_of-self c =
    let v : NodesValue = record { size = c.self.inside.size; nodes = c.self.inside.nodes.items; groups = c.self.inside.groups.items } in
    let new : slot_of v.groups c.args.id ≡ None = search rules in
    let free : free_slot v.groups ≡ Some c.in-Some-free_slot.slot = search rules in
    adds_group v (with_group v c.in-Some-free_slot.slot (Some c.args.id)) c.args.id (Ok c.in-Some-free_slot.slot) (new, free, refl) c.self.invariant
