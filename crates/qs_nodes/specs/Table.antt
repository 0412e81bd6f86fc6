-- The operations on nodes and groups: which answer may come, and what it leaves.
use Rattle.std.specs.Prelude.{◌≡◌, ◌≢◌, ℕ, ◌+◌, ◌<◌, ◌≤◌, ◌⊎◌, Bool, List, [], ◌∷◌, ◌++◌, Option, Some, None, Result, Ok, Err, position, replicate}
use Rattle.std.specs.List.{remove, slice_get, slice_set}
use Rattle.qs_part.specs.declared.graph.User.TheVariants.{Node as NodeUser, Export as ExportUser}
use Rattle.qs_nodes.specs.declared.node.Kind.TheVariants.{File, Raw, Throttle}
use Rattle.qs_nodes.specs.declared.node.Node.{Node}
use Rattle.qs_nodes.specs.declared.node.Refused.{Refused}
use Rattle.qs_nodes.specs.declared.node.Refused.TheVariants.{Duplicate, NoNode, NoGroup, OutOfRange, Deep, Full, Root, InUse, OtherKind, OtherFile, Memory}
use Rattle.qs_nodes.specs.Nodes.{first_member, first_user, free_slot, has_name, named, raw_child, resized_user, shown, slot_of, throttle_child, Lies, LowestFree}

-- the bytes of the image, the nodes in the order in which they were made, and the 16 slots of groups
pub record NodesValue : Type 0 where
  pub size : ℕ
  pub nodes : List Node
  pub groups : List (Option (List ℕ))

-- the file node alone
abbrev pub fresh : ℕ → List ℕ → Bool → NodesValue
fresh size file read_only = record {
  size = size;
  nodes = record { name = file; place = 0; size = size; read_only = read_only; depth = 0; kind = File } ∷ [];
  groups = replicate 16 None;
}

-- one node more
abbrev pub with_node : NodesValue → Node → NodesValue
with_node v n = record { size = v.size; nodes = v.nodes ++ n ∷ []; groups = v.groups }

-- the node of this number in order of making goes
abbrev pub without_node : NodesValue → ℕ → NodesValue
without_node v i = record { size = v.size; nodes = remove v.nodes i; groups = v.groups }

-- the node of this number in order of making is now so
abbrev pub set_node : NodesValue → ℕ → Node → NodesValue
set_node v i n = record { size = v.size; nodes = slice_set v.nodes i n; groups = v.groups }

-- a slot is now so
abbrev pub with_group : NodesValue → ℕ → Option (List ℕ) → NodesValue
with_group v slot group = record { size = v.size; nodes = v.nodes; groups = slice_set v.groups slot group }

-- a raw node over this child
abbrev pub raw : List ℕ → ℕ → Node → ℕ → Option ℕ → Bool → Node
raw name place below offset size read_only = record {
  name = name;
  place = place;
  size = shown below.size offset size;
  read_only = read_only;
  depth = below.depth;
  kind = Raw below.place offset;
}

-- a throttle node over this child
abbrev pub throttle : List ℕ → ℕ → Node → ℕ → Bool → Node
throttle name place below slot read_only = record {
  name = name;
  place = place;
  size = below.size;
  read_only = read_only;
  depth = below.depth + 1;
  kind = Throttle below.place slot;
}

-- no node has this name, and the child is there
abbrev pub IsOver : NodesValue → List ℕ → List ℕ → Node → Type 0
IsOver v name child below = (named v.nodes name ≡ None) × (named v.nodes child ≡ Some below)

-- what answers a new raw node, and what it leaves
abbrev pub AddsRaw : NodesValue → List ℕ → List ℕ → ℕ → Option ℕ → Bool → Result ℕ Refused → NodesValue → Type 0
AddsRaw v name child offset size read_only (Err (Duplicate place)) new =
    (n : Node) × ((named v.nodes name ≡ Some n) × (place ≡ n.place) × (new ≡ v))
AddsRaw v name child offset size read_only (Err (NoNode missing)) new =
    (named v.nodes name ≡ None) × (named v.nodes child ≡ None) × (missing ≡ child) × (new ≡ v)
AddsRaw v name child offset size read_only (Err (OutOfRange all)) new =
    (below : Node) × (IsOver v name child below × (Lies below.size offset size → ⊥) × (all ≡ below.size) × (new ≡ v))
AddsRaw v name child offset size read_only (Err Full) new =
    (below : Node) × (IsOver v name child below × Lies below.size offset size × LowestFree v.nodes None × (new ≡ v))
AddsRaw v name child offset size read_only (Err Memory) new =
    (below : Node) × (place : ℕ) × (IsOver v name child below × Lies below.size offset size
    × LowestFree v.nodes (Some place) × (new ≡ v))
AddsRaw v name child offset size read_only (Err _) new = ⊥
AddsRaw v name child offset size read_only (Ok place) new =
    (below : Node) × (IsOver v name child below × Lies below.size offset size × LowestFree v.nodes (Some place)
    × (new ≡ with_node v (raw name place below offset size read_only)))

-- the node of this name is number i in order of making
abbrev pub IsAt : NodesValue → List ℕ → ℕ → Node → Type 0
IsAt v name i n = (position (has_name name) v.nodes ≡ Some i) × (slice_get v.nodes i ≡ Some n)

-- a new throttle node has a child, and the group stands at this slot
abbrev pub IsMember : NodesValue → List ℕ → List ℕ → List ℕ → Node → ℕ → Type 0
IsMember v name child group below slot = IsOver v name child below × (slot_of v.groups group ≡ Some slot)

-- what answers a new throttle node, and what it leaves
abbrev pub AddsThrottle : NodesValue → List ℕ → List ℕ → List ℕ → Bool → Result ℕ Refused → NodesValue → Type 0
AddsThrottle v name child group read_only (Err (Duplicate place)) new =
    (n : Node) × ((named v.nodes name ≡ Some n) × (place ≡ n.place) × (new ≡ v))
AddsThrottle v name child group read_only (Err (NoNode missing)) new =
    (named v.nodes name ≡ None) × (named v.nodes child ≡ None) × (missing ≡ child) × (new ≡ v)
AddsThrottle v name child group read_only (Err NoGroup) new =
    (below : Node) × (IsOver v name child below × (slot_of v.groups group ≡ None) × (new ≡ v))
AddsThrottle v name child group read_only (Err Deep) new =
    (below : Node) × (slot : ℕ) × (IsMember v name child group below slot × (8 ≤ below.depth) × (new ≡ v))
AddsThrottle v name child group read_only (Err Full) new =
    (below : Node) × (slot : ℕ) × (IsMember v name child group below slot × (below.depth < 8)
    × LowestFree v.nodes None × (new ≡ v))
AddsThrottle v name child group read_only (Err Memory) new =
    (below : Node) × (slot : ℕ) × (place : ℕ)
    × (IsMember v name child group below slot × (below.depth < 8) × LowestFree v.nodes (Some place) × (new ≡ v))
AddsThrottle v name child group read_only (Err _) new = ⊥
AddsThrottle v name child group read_only (Ok place) new =
    (below : Node) × (slot : ℕ)
    × (IsMember v name child group below slot × (below.depth < 8) × LowestFree v.nodes (Some place)
    × (new ≡ with_node v (throttle name place below slot read_only)))

-- the node of this name is number i in order of making, and isn't the file node
abbrev pub IsUpper : NodesValue → List ℕ → ℕ → Node → Type 0
IsUpper v name i n = IsAt v name i n × (n.place ≢ 0)

-- What answers the end of a node, and what it leaves. `export` is the first export over it.
abbrev pub Deletes : NodesValue → List ℕ → Option (List ℕ) → Result Unit Refused → NodesValue → Type 0
Deletes v name export (Err (NoNode missing)) new =
    (position (has_name name) v.nodes ≡ None) × (missing ≡ name) × (new ≡ v)
Deletes v name export (Err Root) new = (i : ℕ) × (n : Node) × (IsAt v name i n × (n.place ≡ 0) × (new ≡ v))
Deletes v name export (Err (InUse (NodeUser above))) new =
    (i : ℕ) × (n : Node) × (m : Node) × (IsUpper v name i n × (first_user v.nodes n.place ≡ Some m) × (above ≡ m.name)
    × (new ≡ v))
Deletes v name export (Err (InUse (ExportUser id))) new =
    (i : ℕ) × (n : Node) × (IsUpper v name i n × (first_user v.nodes n.place ≡ None) × (export ≡ Some id) × (new ≡ v))
Deletes v name export (Err _) new = ⊥
Deletes v name export (Ok done) new =
    (i : ℕ) × (n : Node) × (IsUpper v name i n × (first_user v.nodes n.place ≡ None) × (export ≡ None)
    × (new ≡ without_node v i))

-- the node of this name, and that of its child's
abbrev pub AreAt : NodesValue → List ℕ → List ℕ → ℕ → Node → Node → Type 0
AreAt v name child i n below = IsAt v name i n × (named v.nodes child ≡ Some below)

-- the name, else that of the child, is no node's
abbrev pub IsMissing : NodesValue → List ℕ → List ℕ → List ℕ → Type 0
IsMissing v name child missing =
    ((position (has_name name) v.nodes ≡ None) × (missing ≡ name))
    ⊎ ((i : ℕ) × ((position (has_name name) v.nodes ≡ Some i) × (named v.nodes child ≡ None) × (missing ≡ child)))

-- a raw node over this child, whose part lies in it
abbrev pub Reopens : NodesValue → List ℕ → List ℕ → ℕ → Option ℕ → ℕ → Node → Node → Type 0
Reopens v name child offset size i n below =
    AreAt v name child i n below × (raw_child n.kind ≡ Some below.place) × Lies below.size offset size

-- What answers another part for a raw node, and what it leaves. `export` is the first export over it.
abbrev pub ReopensRaw : NodesValue → List ℕ → List ℕ → ℕ → Option ℕ → Option (List ℕ) → Result Unit Refused →
    NodesValue → Type 0
ReopensRaw v name child offset size export (Err (NoNode missing)) new = IsMissing v name child missing × (new ≡ v)
ReopensRaw v name child offset size export (Err OtherKind) new =
    (i : ℕ) × (n : Node) × (below : Node) × (AreAt v name child i n below × (raw_child n.kind ≡ None) × (new ≡ v))
ReopensRaw v name child offset size export (Err OtherFile) new =
    (i : ℕ) × (n : Node) × (below : Node) × (other : ℕ)
    × (AreAt v name child i n below × (raw_child n.kind ≡ Some other) × (other ≢ below.place) × (new ≡ v))
ReopensRaw v name child offset size export (Err (OutOfRange all)) new =
    (i : ℕ) × (n : Node) × (below : Node) × (AreAt v name child i n below × (raw_child n.kind ≡ Some below.place)
    × (Lies below.size offset size → ⊥) × (all ≡ below.size) × (new ≡ v))
ReopensRaw v name child offset size export (Err (InUse user)) new =
    (i : ℕ) × (n : Node) × (below : Node) × (Reopens v name child offset size i n below
    × (resized_user v.nodes n (shown below.size offset size) export ≡ Some user) × (new ≡ v))
ReopensRaw v name child offset size export (Err _) new = ⊥
ReopensRaw v name child offset size export (Ok done) new =
    (i : ℕ) × (n : Node) × (below : Node) × (Reopens v name child offset size i n below
    × (resized_user v.nodes n (shown below.size offset size) export ≡ None)
    × (new ≡ set_node v i (record n { size = shown below.size offset size; kind = Raw below.place offset })))

-- a throttle node over this child
abbrev pub IsThrottle : NodesValue → List ℕ → List ℕ → ℕ → Node → Node → Type 0
IsThrottle v name child i n below = AreAt v name child i n below × (throttle_child n.kind ≡ Some below.place)

-- what answers another group for a throttle node, and what it leaves
abbrev pub ReopensThrottle : NodesValue → List ℕ → List ℕ → List ℕ → Result Unit Refused → NodesValue → Type 0
ReopensThrottle v name child group (Err (NoNode missing)) new = IsMissing v name child missing × (new ≡ v)
ReopensThrottle v name child group (Err OtherKind) new =
    (i : ℕ) × (n : Node) × (below : Node) × (AreAt v name child i n below × (throttle_child n.kind ≡ None) × (new ≡ v))
ReopensThrottle v name child group (Err OtherFile) new =
    (i : ℕ) × (n : Node) × (below : Node) × (other : ℕ)
    × (AreAt v name child i n below × (throttle_child n.kind ≡ Some other) × (other ≢ below.place) × (new ≡ v))
ReopensThrottle v name child group (Err NoGroup) new =
    (i : ℕ) × (n : Node) × (below : Node) × (IsThrottle v name child i n below × (slot_of v.groups group ≡ None)
    × (new ≡ v))
ReopensThrottle v name child group (Err _) new = ⊥
ReopensThrottle v name child group (Ok done) new =
    (i : ℕ) × (n : Node) × (below : Node) × (slot : ℕ)
    × (IsThrottle v name child i n below × (slot_of v.groups group ≡ Some slot)
    × (new ≡ set_node v i (record n { kind = Throttle below.place slot })))

-- what answers a new group, and what it leaves
abbrev pub AddsGroup : NodesValue → List ℕ → Result ℕ Refused → NodesValue → Type 0
AddsGroup v id (Err (Duplicate slot)) new = (slot_of v.groups id ≡ Some slot) × (new ≡ v)
AddsGroup v id (Err Full) new = (slot_of v.groups id ≡ None) × (free_slot v.groups ≡ None) × (new ≡ v)
AddsGroup v id (Err _) new = ⊥
AddsGroup v id (Ok slot) new =
    (slot_of v.groups id ≡ None) × (free_slot v.groups ≡ Some slot) × (new ≡ with_group v slot (Some id))

-- what answers the end of a group, and what it leaves
abbrev pub EndsGroup : NodesValue → List ℕ → Result Unit Refused → NodesValue → Type 0
EndsGroup v id (Err NoGroup) new = (slot_of v.groups id ≡ None) × (new ≡ v)
EndsGroup v id (Err (InUse (NodeUser name))) new =
    (slot : ℕ) × (n : Node) × ((slot_of v.groups id ≡ Some slot) × (first_member v.nodes slot ≡ Some n)
    × (name ≡ n.name) × (new ≡ v))
EndsGroup v id (Err _) new = ⊥
EndsGroup v id (Ok done) new =
    (slot : ℕ) × ((slot_of v.groups id ≡ Some slot) × (first_member v.nodes slot ≡ None)
    × (new ≡ with_group v slot None))
