-- The way down from a node to the image.
use Rattle.std.specs.Prelude.{◌≡◌, ℕ, ◌+◌, ◌<◌, ◌^◌, ◌==◌, Bool, true, false, List, [], ◌∷◌, Option, Some, None, option_map, replicate, if◌then◌else◌}
use Rattle.std.specs.List.{slice_set}
use Rattle.qs_nodes.specs.declared.node.Kind.{Kind}
use Rattle.qs_nodes.specs.declared.node.Kind.TheVariants.{File, Raw, Throttle}
use Rattle.qs_nodes.specs.declared.node.Node.{Node}
use Rattle.qs_nodes.specs.declared.way.WayDown.{WayDown}
use Rattle.qs_nodes.specs.declared.walk.Walk.{Walk}
use Rattle.qs_nodes.specs.Nodes.{named}
use Rattle.qs_nodes.specs.Tree.{node_at, IsRooted}

-- the place of a node's child
abbrev pub child_of : Kind → Option ℕ
child_of File = None
child_of (Raw child offset) = Some child
child_of (Throttle child slot) = Some child

-- the way through a node at a place: a raw node moves offsets, a throttle node is one more member
abbrev pub through : Kind → ℕ → WayDown → WayDown
through File place way = way
through (Raw child offset) place way = record way { offset = way.offset + offset }
through (Throttle child slot) place way =
    record way { groups = slice_set way.groups way.count (slot, place); count = way.count + 1 }

-- the first read-only node so far
abbrev pub first_read_only : Option (List ℕ) → Node → Option (List ℕ)
first_read_only None n = if n.read_only then Some n.name else None
first_read_only (Some name) n = Some name

-- the way through a node
abbrev pub met : Node → WayDown → WayDown
met n way = record (through n.kind n.place way) { read_only = first_read_only way.read_only n }

-- the walk goes on to this place
abbrev pub is_next : ℕ → Option ℕ → Bool
is_next place None = false
is_next place (Some next) = place == next

-- a walk passes a node, which is on the way where the walk goes on to its place
abbrev pub walked_past : Node → Walk → Walk
walked_past n w = if is_next n.place w.next then record { next = child_of n.kind; way = met n w.way } else w

-- A walk passes nodes, the newest first. A child is older than its users, so that none is passed too early.
abbrev pub walked : List Node → Walk → Walk
walked [] w = w
walked (n ∷ newer) w = walked_past n (walked newer w)

-- the walk that begins at a place, where a node of this size is
abbrev pub walk_begun : ℕ → ℕ → Walk
walk_begun place size = record {
  next = Some place;
  way = record { offset = 0; size = size; groups = replicate 8 (0, 0); count = 0; read_only = None };
}

-- the way down from the node at a place
abbrev pub way_from : List Node → ℕ → Option WayDown
way_from nodes place = option_map (λ (n : Node). (walked nodes (walk_begun place n.size)).way) (node_at nodes place)

-- the place of the node of a name
abbrev pub place_of : List Node → List ℕ → Option ℕ
place_of nodes name = option_map (λ (n : Node). n.place) (named nodes name)

-- the nodes are a tree over an image whose size is a u64
abbrev pub AreRooted : List Node → Type 0
AreRooted nodes = (size : ℕ) × ((size < 2 ^ 64) × IsRooted size nodes)

-- the sum of offsets is a u64, and there is room for one more member
abbrev pub FitsWay : Kind → WayDown → Type 0
FitsWay File way = Unit {0}
FitsWay (Raw child offset) way = way.offset + offset < 2 ^ 64
FitsWay (Throttle child slot) way = way.count < 8

-- there is room for a node that the walk goes on to
abbrev pub CanPass : Node → Walk → Type 0
CanPass n w = is_next n.place w.next ≡ true → FitsWay n.kind w.way
