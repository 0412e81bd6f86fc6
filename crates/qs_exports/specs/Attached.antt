-- A place answers for its export while a client of it is attached.
use Rattle.std.specs.Prelude.{◌≡◌, ℕ, ◌+◌, ◌<◌, ◌≤◌, List, Some, find}
use Rattle.qs_exports.specs.declared.export.Export.{Export}
use Rattle.qs_exports.specs.Standing.{stands_at}

-- An export with clients still has its place, is the same but for whether it is shutting, and has at least so many
-- clients less the ones that left.
abbrev pub StaysAt : ℕ → List Export → List Export → ℕ → Type 0
StaysAt left old new place =
    (x : Export) → find (stands_at place) old ≡ Some x → left < x.clients →
    (y : Export) × ((find (stands_at place) new ≡ Some y) × (y.made ≡ x.made) × (x.clients ≤ y.clients + left))
