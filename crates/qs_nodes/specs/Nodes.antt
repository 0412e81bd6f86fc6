-- Nodes in the order in which they were made, and the groups at their slots.
use Rattle.std.specs.Prelude.{◌≡◌, ℕ, ◌+◌, ◌-◌, ◌<◌, ◌≤◌, ◌==◌, Bool, true, false, List, Option, Some, None, find, position, option_map, if◌then◌else◌}
use Rattle.std.specs.List.{list_any}
use Rattle.std.specs.Str.{bytes_eq}
use Rattle.qs_part.specs.declared.graph.User.{User}
use Rattle.qs_part.specs.declared.graph.User.TheVariants.{Node as NodeUser, Export as ExportUser}
use Rattle.qs_nodes.specs.declared.node.Kind.{Kind}
use Rattle.qs_nodes.specs.declared.node.Kind.TheVariants.{File, Raw, Throttle}
use Rattle.qs_nodes.specs.declared.node.Node.{Node}

abbrev pub has_name : List ℕ → Node → Bool
has_name name n = bytes_eq n.name name

abbrev pub has_place : ℕ → Node → Bool
has_place place n = n.place == place

-- the node at a place is the child of one of this kind
abbrev pub has_child : ℕ → Kind → Bool
has_child place File = false
has_child place (Raw child offset) = child == place
has_child place (Throttle child slot) = child == place

-- the node at a place is the child of this one
abbrev pub is_over : ℕ → Node → Bool
is_over place n = has_child place n.kind

abbrev pub has_slot : ℕ → Kind → Bool
has_slot slot (Throttle child own) = own == slot
has_slot slot (Raw child offset) = false
has_slot slot File = false

-- a throttle node of the group at a slot
abbrev pub is_in_group : ℕ → Node → Bool
is_in_group slot n = has_slot slot n.kind

-- the node of a name
abbrev pub named : List Node → List ℕ → Option Node
named nodes name = find (has_name name) nodes

-- the first user of the node at a place, in order of making
abbrev pub first_user : List Node → ℕ → Option Node
first_user nodes place = find (is_over place) nodes

-- the first node of the group at a slot, in order of making
abbrev pub first_member : List Node → ℕ → Option Node
first_member nodes slot = find (is_in_group slot) nodes

abbrev pub is_taken : List Node → ℕ → Bool
is_taken nodes place = list_any (has_place place) nodes

-- the lowest free place
abbrev pub LowestFree : List Node → Option ℕ → Type 0
LowestFree nodes None = (k : ℕ) → k < 64 → is_taken nodes k ≡ true
LowestFree nodes (Some place) =
    (place < 64) × (is_taken nodes place ≡ false) × ((k : ℕ) → k < place → is_taken nodes k ≡ true)

-- a group of this id stands at a slot
abbrev pub has_id : List ℕ → Option (List ℕ) → Bool
has_id id None = false
has_id id (Some own) = bytes_eq own id

abbrev pub is_empty : Option (List ℕ) → Bool
is_empty None = true
is_empty (Some own) = false

-- the slot of a group
abbrev pub slot_of : List (Option (List ℕ)) → List ℕ → Option ℕ
slot_of groups id = position (has_id id) groups

-- the lowest free slot
abbrev pub free_slot : List (Option (List ℕ)) → Option ℕ
free_slot groups = position is_empty groups

-- the bytes from an offset on that a raw node shows; without a size that is the rest
abbrev pub shown : ℕ → ℕ → Option ℕ → ℕ
shown all offset None = all - offset
shown all offset (Some size) = size

-- the part of a child lies in it
abbrev pub Lies : ℕ → ℕ → Option ℕ → Type 0
Lies all offset size = (offset ≤ all) × (offset + shown all offset size ≤ all)

-- the bytes that a part shows, where it lies in the child
abbrev pub IsPart : ℕ → ℕ → Option ℕ → Option ℕ → Type 0
IsPart all offset size None = Lies all offset size → ⊥
IsPart all offset size (Some bytes) = Lies all offset size × (bytes ≡ shown all offset size)

abbrev pub first_of : Option User → Option User → Option User
first_of None other = other
first_of (Some user) other = Some user

-- the first user of the node at a place: the first node over it, else the export
abbrev pub user_of : List Node → ℕ → Option (List ℕ) → Option User
user_of nodes place export = first_of (option_map (λ (n : Node). NodeUser n.name) (first_user nodes place))
    (option_map ExportUser export)

-- the first user of a node that would get another size
abbrev pub resized_user : List Node → Node → ℕ → Option (List ℕ) → Option User
resized_user nodes n bytes export = if bytes == n.size then None else user_of nodes n.place export

-- the child of a raw node
abbrev pub raw_child : Kind → Option ℕ
raw_child File = None
raw_child (Raw child offset) = Some child
raw_child (Throttle child slot) = None

-- the child of a throttle node
abbrev pub throttle_child : Kind → Option ℕ
throttle_child File = None
throttle_child (Raw child offset) = None
throttle_child (Throttle child slot) = Some child
