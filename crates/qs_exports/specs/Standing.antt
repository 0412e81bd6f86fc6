-- Exports in the order in which they were made, and what is looked up among them.
use Rattle.std.specs.Prelude.{◌≡◌, ℕ, ◌<◌, ◌==◌, ◌&&◌, ◌||◌, Bool, true, false, not, List, [], ◌∷◌, Option, Some, None, find, option_map}
use Rattle.std.specs.List.{list_any}
use Rattle.std.specs.Str.{bytes_eq}
use Rattle.qs_exports.specs.declared.export.Export.{Export}

-- its place is this one
abbrev pub stands_at : ℕ → Export → Bool
stands_at place x = x.place == place

-- it stands, and has this id
abbrev pub has_standing_id : List ℕ → Export → Bool
has_standing_id id x = not x.shutting && bytes_eq x.made.id id

-- it stands, and has this id or this name
abbrev pub is_alike : List ℕ → List ℕ → Export → Bool
is_alike id name x = not x.shutting && (bytes_eq x.made.id id || bytes_eq x.made.name name)

-- a client that asks for the first name means an export of the second; the empty name means every one
abbrev pub is_meant : List ℕ → List ℕ → Bool
is_meant [] own = true
is_meant (byte ∷ bytes) own = bytes_eq own (byte ∷ bytes)

-- it stands, and a client that asks for this name means it
abbrev pub is_meant_by : List ℕ → Export → Bool
is_meant_by name x = not x.shutting && is_meant name x.made.name

-- it exports the node at this place
abbrev pub is_over_node : ℕ → Export → Bool
is_over_node node x = x.made.node == node

-- it goes with its next client that leaves: it is shutting, and has one client
abbrev pub goes_with_next : Export → Bool
goes_with_next x = x.shutting && x.clients == 1

-- the id of the first export over the node at a place, in order of making
abbrev pub first_id_over : List Export → ℕ → Option (List ℕ)
first_id_over exports node = option_map (λ (x : Export). x.made.id) (find (is_over_node node) exports)

abbrev pub is_place_taken : List Export → ℕ → Bool
is_place_taken exports place = list_any (stands_at place) exports

-- the lowest free one of the 64 places
abbrev pub LowestFreePlace : List Export → Option ℕ → Type 0
LowestFreePlace exports None = (k : ℕ) → k < 64 → is_place_taken exports k ≡ true
LowestFreePlace exports (Some place) =
    (place < 64) × (is_place_taken exports place ≡ false)
    × ((k : ℕ) → k < place → is_place_taken exports k ≡ true)

-- a standing export with this id or this name has this place
abbrev pub has_alike_at : List Export → List ℕ → List ℕ → ℕ → Bool
has_alike_at exports id name place = list_any (λ x. is_alike id name x && stands_at place x) exports

-- the lowest place of a standing export with this id or this name
abbrev pub LowestAlike : List Export → List ℕ → List ℕ → Option ℕ → Type 0
LowestAlike exports id name None = (k : ℕ) → k < 64 → has_alike_at exports id name k ≡ false
LowestAlike exports id name (Some place) =
    (place < 64) × (has_alike_at exports id name place ≡ true)
    × ((k : ℕ) → k < place → has_alike_at exports id name k ≡ false)

-- each has a place below 64 of its own, and 1,024 clients at most
abbrev pub AreSeated : List Export → Type 0
AreSeated [] = Unit {0}
AreSeated (x ∷ xs) = (x.place < 64) × (x.clients < 1025) × (is_place_taken xs x.place ≡ false) × AreSeated xs
