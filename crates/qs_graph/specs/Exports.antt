-- Exports of the file node, and the places where they stand.
use Rattle.std.specs.Prelude.{ℕ, Bool, true, false, not, ◌||◌, List, [], ◌∷◌, Option, Some, None, position, find, option_map}
use Rattle.std.specs.List.{slice_index_or, list_all, filter_map}
use Rattle.std.specs.Str.{bytes_eq}
use Rattle.qs_graph.specs.declared.export.Export.{Export}
use Rattle.qs_graph.specs.declared.export.Right.{Right}
use Rattle.qs_graph.specs.declared.export.Right.TheVariants.{Read, Write}

-- an export without clients
abbrev pub new_export : List ℕ → List ℕ → Bool → Bool → Export
new_export id name writable share_write = record {
  id = id;
  name = name;
  writable = writable;
  share_write = share_write;
  clients = 0;
}

-- every export takes read, and a writable one takes write
abbrev pub takes : Export → Right → Bool
takes x Read = true
takes x Write = x.writable

-- every export shares read
abbrev pub shares : Export → Right → Bool
shares x Read = true
shares x Write = x.share_write

-- the first shares every right that the second takes
abbrev pub allows : Export → Export → Bool
allows x y = list_all (λ right. not (takes y right) || shares x right) (Read ∷ Write ∷ [])

-- one takes what the other doesn't share (QEMU's bdrv_a_allow_b)
abbrev pub conflicts : Export → Export → Bool
conflicts x y = not (allows x y) || not (allows y x)

-- an export has this id or this name
abbrev pub is_alike : List ℕ → List ℕ → Export → Bool
is_alike id name x = bytes_eq x.id id || bytes_eq x.name name

-- the export at a place; there is none at a number that no place has
abbrev pub export_at : List (Option Export) → ℕ → Option Export
export_at places e = slice_index_or places e None

abbrev pub is_vacant : Option Export → Bool
is_vacant None = true
is_vacant (Some x) = false

abbrev pub is_standing : Option Export → Bool
is_standing place = not (is_vacant place)

-- an export of this name stands here
abbrev pub has_name : List ℕ → Option Export → Bool
has_name name None = false
has_name name (Some x) = bytes_eq x.name name

-- an export of this id or this name stands here
abbrev pub has_alike : List ℕ → List ℕ → Option Export → Bool
has_alike id name None = false
has_alike id name (Some x) = is_alike id name x

-- The standing exports in the order in which they were made. A new one takes the lowest free place
-- and none goes, so that is the order of places.
abbrev pub standing : List (Option Export) → List Export
standing places = filter_map (λ place. place) places

-- the first standing export that a new one conflicts with
abbrev pub first_against : List (Option Export) → Export → Option Export
first_against places x = find (conflicts x) (standing places)

abbrev pub first_of_two : Option (Export × Export) → Option (Export × Export) → Option (Export × Export)
first_of_two None other = other
first_of_two (Some pair) other = Some pair

-- of some users of a node, in their order, the first pair that conflicts
abbrev pub conflicting_pair : List Export → Option (Export × Export)
conflicting_pair [] = None
conflicting_pair (x ∷ xs) = first_of_two (option_map (λ y. (x, y)) (find (conflicts x) xs)) (conflicting_pair xs)

-- The place of the export that a name means: the one of that name. The empty name means the one
-- that was made first.
abbrev pub found_at : List (Option Export) → List ℕ → Option ℕ
found_at places [] = position is_standing places
found_at places (byte ∷ bytes) = position (has_name (byte ∷ bytes)) places

-- how many clients the export at a place has
abbrev pub clients_of : Option Export → ℕ
clients_of None = 0
clients_of (Some x) = x.clients

-- whether clients of the export at a place may write
abbrev pub writable_of : Option Export → Bool
writable_of None = false
writable_of (Some x) = x.writable

-- the place with another number of clients
abbrev pub clients_counted : Option Export → ℕ → Option Export
clients_counted None n = None
clients_counted (Some x) n = Some (record x { clients = n })
