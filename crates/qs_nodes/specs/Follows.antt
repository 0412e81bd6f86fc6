-- The way from a node, as the way from its child tells it.
use Rattle.std.specs.Prelude.{◌≡◌, ℕ, ◌+◌, ◌<◌, List, Option, Some, None, if◌then◌else◌}
use Rattle.std.specs.List.{slice_index_or}
use Rattle.std.specs.Option.{option_or}
use Rattle.qs_nodes.specs.declared.node.Kind.{Kind}
use Rattle.qs_nodes.specs.declared.node.Kind.TheVariants.{File, Raw, Throttle}
use Rattle.qs_nodes.specs.declared.node.Node.{Node}
use Rattle.qs_nodes.specs.declared.way.WayDown.{WayDown}

-- how far a node moves offsets
abbrev pub offset_of : Kind → ℕ
offset_of File = 0
offset_of (Raw child offset) = offset
offset_of (Throttle child slot) = 0

-- how many throttle nodes a node is
abbrev pub members_of : Kind → ℕ
members_of File = 0
members_of (Raw child offset) = 0
members_of (Throttle child slot) = 1

-- a node's name, where it is read-only
abbrev pub name_if_read_only : Node → Option (List ℕ)
name_if_read_only n = if n.read_only then Some n.name else None

-- the way from a node adds what the node does to the way from its child
pub record Follows (n : Node) (way below : WayDown) : Type 0 where
  pub offset : way.offset ≡ offset_of n.kind + below.offset
  pub count : way.count ≡ members_of n.kind + below.count
  pub read_only : way.read_only ≡ option_or (name_if_read_only n) below.read_only
  pub first : (child slot : ℕ) → n.kind ≡ Throttle child slot →
      slice_index_or way.groups 0 (0, 0) ≡ (slot, n.place)
  pub groups : (k : ℕ) → k < below.count →
      slice_index_or way.groups (members_of n.kind + k) (0, 0) ≡ slice_index_or below.groups k (0, 0)

-- the way from the file node
abbrev pub IsFromFile : Node → WayDown → Type 0
IsFromFile n way = (way.offset ≡ 0) × (way.size ≡ n.size) × (way.count ≡ 0) × (way.read_only ≡ name_if_read_only n)
