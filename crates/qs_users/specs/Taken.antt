-- What the users of a node take of it and share with each other.
use Rattle.std.specs.Prelude.{ℕ, ◌==◌, Bool, List, [], ◌∷◌, map, if◌then◌else◌}
use Rattle.std.specs.List.{filter}
use Rattle.qs_perm.specs.declared.users.UserPerms.{UserPerms}
use Rattle.qs_perm.specs.Users.{export_perms, joined_all, union_of}
use Rattle.qs_nodes.specs.declared.node.Node.{Node}
use Rattle.qs_nodes.specs.Nodes.{is_over}
use Rattle.qs_exports.specs.declared.export.Export.{Export}
use Rattle.qs_exports.specs.declared.export.NewExport.{NewExport}

-- exports as they were made
abbrev pub exported : List Export → List NewExport
exported exports = map (λ (x : Export). x.made) exports

-- it exports the node at this place
abbrev pub exports_node : ℕ → NewExport → Bool
exports_node place x = x.node == place

-- what an export takes and shares
abbrev pub made_perms : NewExport → UserPerms
made_perms x = export_perms x.writable x.share_write

-- what the exports over a node take together and share
abbrev pub exports_together : List NewExport → ℕ → UserPerms
exports_together exports place = joined_all (map made_perms (filter (exports_node place) exports))

-- What the users of the node at a place take together, and what all of them share: the exports over it, and the nodes
-- over it, each of which takes of it what its own users take. `nodes` are those made after it, in the order of making;
-- only such nodes can be over it (QEMU's bdrv_default_perms).
abbrev pub perms_at : List Node → List NewExport → ℕ → UserPerms
perms_at [] exports place = exports_together exports place
perms_at (n ∷ newer) exports place =
    if is_over place n then union_of (perms_at newer exports n.place) (perms_at newer exports place)
    else perms_at newer exports place
