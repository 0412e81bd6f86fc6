-- The users of a node in their order, and the first two on a way down that conflict.
use Rattle.std.specs.Prelude.{◌≡◌, ◌⊎◌, ℕ, List, [], ◌∷◌, ◌++◌, Option, Some, None, Ok, Err, map, reverse, if◌then◌else◌}
use Rattle.std.specs.List.{filter, slice_get}
use Rattle.qs_part.specs.declared.graph.User.{User}
use Rattle.qs_part.specs.declared.graph.User.TheVariants.{Node as NodeUser, Export as ExportUser}
use Rattle.qs_perm.specs.declared.users.UserPerms.{UserPerms}
use Rattle.qs_perm.specs.Users.{Checks}
use Rattle.qs_nodes.specs.declared.node.Node.{Node}
use Rattle.qs_nodes.specs.Nodes.{is_over}
use Rattle.qs_nodes.specs.Ways.{child_of, is_next}
use Rattle.qs_exports.specs.declared.export.NewExport.{NewExport}
use Rattle.qs_users.specs.Taken.{exports_node, made_perms, perms_at}

-- users in their order, and beside them what each takes and shares
pub record UsersValue : Type 0 where
  pub who : List User
  pub perms : List UserPerms

abbrev pub no_users : UsersValue
no_users = record { who = []; perms = [] }

-- one user more, the last
abbrev pub with_user : UsersValue → User → UserPerms → UsersValue
with_user u who perms = record { who = u.who ++ who ∷ []; perms = u.perms ++ perms ∷ [] }

-- users, and others behind them
abbrev pub with_users : UsersValue → UsersValue → UsersValue
with_users u v = record { who = u.who ++ v.who; perms = u.perms ++ v.perms }

-- Of some nodes those over the one at a place, in the order of making; each takes what its own users take together.
abbrev pub node_users : List Node → List Node → List NewExport → ℕ → UsersValue
node_users some nodes exports place = record {
  who = map (λ (n : Node). NodeUser n.name) (filter (is_over place) some);
  perms = map (λ (n : Node). perms_at nodes exports n.place) (filter (is_over place) some);
}

-- the exports over the node at a place, in the order of making
abbrev pub export_users : List NewExport → ℕ → UsersValue
export_users exports place = record {
  who = map (λ (x : NewExport). ExportUser x.id) (filter (exports_node place) exports);
  perms = map made_perms (filter (exports_node place) exports);
}

-- the users of the node at a place: nodes before exports, each in the order of making
abbrev pub users_at : List Node → List NewExport → ℕ → UsersValue
users_at nodes exports place = with_users (node_users nodes nodes exports place) (export_users exports place)

-- none of the users conflicts with another, or these are the first two that do
abbrev pub ClashAt : UsersValue → Option (User × User) → Type 0
ClashAt u None = Checks u.perms (Ok tt)
ClashAt u (Some pair) =
    (i j : ℕ) × (Checks u.perms (Err (i, j)) × (slice_get u.who i ≡ Some pair.0) × (slice_get u.who j ≡ Some pair.1))

-- The places on a way down that goes on to `next`. The nodes are given newest first: a child is older than the nodes
-- over it.
abbrev pub places_down : List Node → Option ℕ → List ℕ
places_down [] next = []
places_down (n ∷ older) next =
    if is_next n.place next then n.place ∷ places_down older (child_of n.kind) else places_down older next

-- of some places the first where two users conflict, with the two
abbrev pub FirstClash : List Node → List NewExport → List ℕ → Option (User × User) → Type 0
FirstClash nodes exports [] result = result ≡ None
FirstClash nodes exports (place ∷ places) result =
    (ClashAt (users_at nodes exports place) None × FirstClash nodes exports places result)
    ⊎ ((pair : User × User) × (ClashAt (users_at nodes exports place) (Some pair) × (result ≡ Some pair)))

-- the same along the way down from a new export, which is the last one made
abbrev pub ClashOnWay : List Node → List NewExport → NewExport → Option (User × User) → Type 0
ClashOnWay nodes exports new result =
    FirstClash nodes (exports ++ new ∷ []) (places_down (reverse nodes) (Some new.node)) result
