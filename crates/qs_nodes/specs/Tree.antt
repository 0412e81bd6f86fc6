-- How the nodes stand over each other.
use Rattle.std.specs.Prelude.{◌≡◌, ℕ, ◌+◌, ◌^◌, ◌<◌, ◌≤◌, false, List, [], ◌∷◌, Option, Some, None, find, length}
use Rattle.std.specs.List.{slice_index_or}
use Rattle.qs_nodes.specs.declared.node.Kind.{Kind}
use Rattle.qs_nodes.specs.declared.node.Kind.TheVariants.{File, Raw, Throttle}
use Rattle.qs_nodes.specs.declared.node.Node.{Node}
use Rattle.qs_nodes.specs.Nodes.{has_place, is_empty, named}
use Rattle.qs_nodes.specs.Table.{NodesValue}

-- the node at a place
abbrev pub node_at : List Node → ℕ → Option Node
node_at nodes place = find (has_place place) nodes

-- A node shows a part of an older one, or the whole of it for a throttle group. None of these is the
-- file node.
abbrev pub Shows : List Node → Node → Kind → Type 0
Shows older n File = ⊥
Shows older n (Raw child offset) =
    (below : Node) × ((node_at older child ≡ Some below) × (offset + n.size ≤ below.size) × (n.depth ≡ below.depth))
Shows older n (Throttle child slot) =
    (below : Node) × ((node_at older child ≡ Some below) × (n.size ≡ below.size) × (n.depth ≡ below.depth + 1))

-- a node that was made after these
pub record StandsOver (older : List Node) (n : Node) : Type 0 where
  pub place : n.place < 64
  pub free : node_at older n.place ≡ None
  pub name : named older n.name ≡ None
  pub depth : n.depth ≤ 8
  pub shows : Shows older n n.kind

-- Each of the newer nodes, in order of making, stands over those made before it. The older ones begin
-- with the newest of them.
abbrev pub AllOver : List Node → List Node → Type 0
AllOver older [] = Unit {0}
AllOver older (n ∷ newer) = StandsOver older n × AllOver (n ∷ older) newer

-- the file node over an image of this size
pub record IsRoot (all : ℕ) (n : Node) : Type 0 where
  pub place : n.place ≡ 0
  pub size : n.size ≡ all
  pub depth : n.depth ≡ 0
  pub kind : n.kind ≡ File

-- the file node is the first, and the others stand over it
abbrev pub IsRooted : ℕ → List Node → Type 0
IsRooted size [] = ⊥
IsRooted size (n ∷ newer) = IsRoot size n × AllOver (n ∷ []) newer

-- a group stands at the slot of a throttle node
abbrev pub InGroup : List (Option (List ℕ)) → Kind → Type 0
InGroup groups File = Unit {0}
InGroup groups (Raw child offset) = Unit {0}
InGroup groups (Throttle child slot) = is_empty (slice_index_or groups slot None) ≡ false

abbrev pub AllInGroups : List (Option (List ℕ)) → List Node → Type 0
AllInGroups groups [] = Unit {0}
AllInGroups groups (n ∷ nodes) = InGroup groups n.kind × AllInGroups groups nodes

-- the nodes are a tree over an image of fewer than 2^64 bytes, and the groups have 16 slots
pub record IsTree (v : NodesValue) : Type 0 where
  pub whole : v.size < 2 ^ 64
  pub slots : length v.groups ≡ 16
  pub rooted : IsRooted v.size v.nodes
  pub grouped : AllInGroups v.groups v.nodes
