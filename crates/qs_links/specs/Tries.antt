-- A try of a wire: a read or a write that doesn't wait.
use Rattle.std.specs.Prelude.{◌≡◌, ℕ, ◌<◌, ◌≤◌, Bool, true, false, List, [], Option, take, ⊤}
use Rattle.std.specs.Io.KnownBytes.{IsAtEnd}
use Rattle.qs_outside.specs.Faults.{Rose}
use Rattle.qs_links.specs.declared.wire.Tried.{Tried}
use Rattle.qs_links.specs.declared.wire.Tried.TheVariants.{Did, NotReady, Ended, Failed}

-- the bytes of a buffer that a try moved
abbrev pub moved_by : Tried → List ℕ → List ℕ
moved_by (Did n) buffer = take n buffer
moved_by NotReady buffer = []
moved_by Ended buffer = []
moved_by Failed buffer = []

-- how many bytes a try may move, of those there is room for: some, where there is room for any
abbrev pub MovesWithin : ℕ → Tried → Type 0
MovesWithin room (Did n) = (n ≤ room) × (0 < room → 0 < n)
MovesWithin room NotReady = ⊤
MovesWithin room Ended = ⊤
MovesWithin room Failed = ⊤

-- a read ends where there is room for bytes, and none is left
abbrev pub EndsRead : Option (List ℕ) → ℕ → Tried → Type 0
EndsRead left room (Did n) = ⊤
EndsRead left room NotReady = ⊤
EndsRead left room Ended = (0 < room) × IsAtEnd left
EndsRead left room Failed = ⊤

abbrev pub is_failed : Tried → Bool
is_failed (Did n) = false
is_failed NotReady = false
is_failed Ended = false
is_failed Failed = true

abbrev pub is_not_ready : Tried → Bool
is_not_ready (Did n) = false
is_not_ready NotReady = true
is_not_ready Ended = false
is_not_ready Failed = false

-- a count that rises where an answer is of some kind, and stays at every other one
abbrev pub CountsIf : Bool → ℕ → ℕ → Type 0
CountsIf true before now = (before ≤ now) × Rose before now
CountsIf false before now = now ≡ before
