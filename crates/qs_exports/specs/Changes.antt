-- The operations on exports: which answer may come, and what it leaves.
use Rattle.std.specs.Prelude.{◌≡◌, ℕ, ◌+◌, ◌-◌, ◌<◌, ◌≤◌, ◌==◌, Bool, true, false, List, [], ◌∷◌, ◌++◌, Some, None, Result, Ok, Err, position, if◌then◌else◌}
use Rattle.std.specs.List.{remove, slice_get, slice_set}
use Rattle.qs_exports.specs.declared.export.Export.{Export}
use Rattle.qs_exports.specs.declared.export.NewExport.{NewExport}
use Rattle.qs_exports.specs.declared.export.Refused.{Refused}
use Rattle.qs_exports.specs.declared.export.Refused.TheVariants.{Duplicate, Full, NoExport, Crowded, NotAttached, Connected, Memory}
use Rattle.qs_exports.specs.Standing.{is_meant_by, has_standing_id, goes_with_next, stands_at, LowestAlike, LowestFreePlace}

-- an export as it is made, at a place
abbrev pub made_at_place : NewExport → ℕ → Export
made_at_place made place = record { made = made; place = place; clients = 0; shutting = false }

-- What answers a new export, and what it leaves (QMP's block-export-add). No two standing exports have one id or one
-- name.
abbrev pub AddsExport : List Export → NewExport → Result ℕ Refused → List Export → Type 0
AddsExport old made (Err (Duplicate place)) new = LowestAlike old made.id made.name (Some place) × (new ≡ old)
AddsExport old made (Err Full) new =
    LowestAlike old made.id made.name None × LowestFreePlace old None × (new ≡ old)
AddsExport old made (Err Memory) new =
    (place : ℕ) × (LowestAlike old made.id made.name None × LowestFreePlace old (Some place) × (new ≡ old))
AddsExport old made (Err _) new = ⊥
AddsExport old made (Ok place) new =
    LowestAlike old made.id made.name None × LowestFreePlace old (Some place)
    × (new ≡ old ++ made_at_place made place ∷ [])

-- the first export that passes a test is number i in order of making
abbrev pub IsFirstPassing : (Export → Bool) → List Export → ℕ → Export → Type 0
IsFirstPassing test exports i x = (position test exports ≡ Some i) × (slice_get exports i ≡ Some x)

-- What answers a client that attaches, and what it leaves. The export that is answered is the one as it is then.
abbrev pub Attaches : List Export → List ℕ → Result Export Refused → List Export → Type 0
Attaches old name (Err NoExport) new = (position (is_meant_by name) old ≡ None) × (new ≡ old)
Attaches old name (Err Crowded) new =
    (i : ℕ) × (x : Export) × (IsFirstPassing (is_meant_by name) old i x × (1024 ≤ x.clients) × (new ≡ old))
Attaches old name (Err _) new = ⊥
Attaches old name (Ok y) new =
    (i : ℕ) × (x : Export) × (IsFirstPassing (is_meant_by name) old i x × (x.clients < 1024)
    × (y ≡ record x { clients = x.clients + 1 }) × (new ≡ slice_set old i y))

-- The exports where number i in order of making has one client less. One that is shutting goes with its last client.
abbrev pub less_one : List Export → ℕ → Export → List Export
less_one exports i x =
    if goes_with_next x then remove exports i
    else slice_set exports i (record x { clients = x.clients - 1 })

-- no client is attached at this place: no export has it, or the one that has it has no client
abbrev pub HasNoClient : List Export → ℕ → Type 0
HasNoClient exports place = (i : ℕ) (x : Export) → IsFirstPassing (stands_at place) exports i x → x.clients ≡ 0

-- what answers a client that leaves the export at a place, and what it leaves
abbrev pub Detaches : List Export → ℕ → Result Unit Refused → List Export → Type 0
Detaches old place (Err NotAttached) new = HasNoClient old place × (new ≡ old)
Detaches old place (Err _) new = ⊥
Detaches old place (Ok done) new =
    (i : ℕ) × (x : Export) × (IsFirstPassing (stands_at place) old i x × (0 < x.clients) × (new ≡ less_one old i x))

-- the exports where number i in order of making is deleted: it goes, or is shutting while it has clients
abbrev pub ended_at : List Export → ℕ → Export → List Export
ended_at exports i x = if x.clients == 0 then remove exports i else slice_set exports i (record x { shutting = true })

-- what answers the end of an export, and what it leaves (QMP's block-export-del)
abbrev pub DeletesExport : List Export → List ℕ → Bool → Result Unit Refused → List Export → Type 0
DeletesExport old id hard (Err NoExport) new = (position (has_standing_id id) old ≡ None) × (new ≡ old)
DeletesExport old id hard (Err (Connected clients)) new =
    (i : ℕ) × (x : Export) × (IsFirstPassing (has_standing_id id) old i x × (hard ≡ false) × (0 < x.clients)
    × (clients ≡ x.clients) × (new ≡ old))
DeletesExport old id hard (Err _) new = ⊥
DeletesExport old id hard (Ok done) new =
    (i : ℕ) × (x : Export) × (IsFirstPassing (has_standing_id id) old i x × (0 < x.clients → hard ≡ true)
    × (new ≡ ended_at old i x))
