-- Sizes of nodes that have users.
use Rattle.std.specs.Prelude.{◌≡◌, ℕ, List, Option, Some, None}
use Rattle.qs_nodes.specs.declared.node.Node.{Node}
use Rattle.qs_nodes.specs.Table.{NodesValue}
use Rattle.qs_nodes.specs.Tree.{node_at}
use Rattle.qs_nodes.specs.Ways.{place_of}

abbrev pub at_place : (ℕ → Option (List ℕ)) → Option ℕ → Option (List ℕ)
at_place exports None = None
at_place exports (Some place) = exports place

-- the first export over the node of a name, where `exports` tells it of each place
abbrev pub export_over : (ℕ → Option (List ℕ)) → List Node → List ℕ → Option (List ℕ)
export_over exports nodes name = at_place exports (place_of nodes name)

-- the node at a place still stands there, and its size is what it was
abbrev pub KeepsSize : NodesValue → NodesValue → ℕ → Type 0
KeepsSize v new place =
    (n : Node) → node_at v.nodes place ≡ Some n → (m : Node) × ((node_at new.nodes place ≡ Some m) × (m.size ≡ n.size))
