-- Jobs that are started, and links that are accepted.
use Rattle.std.specs.Prelude.{◌≡◌, ◌∷◌, Bool, true, false, ℕ, ◌+◌, List, Option, Some, None, Result, Ok, Err, ⊤}
use Rattle.qs_outside.specs.Streams.{Calls, made_well, made_badly}

-- an accepted link is the first of those that wait, where these are told; a failure takes none
abbrev pub Accepts : {L E : Type 0} → Option (List L) → Option (List L) → Result L E → Type 0
Accepts None new result = ⊤
Accepts (Some xs) None result = ⊥
Accepts (Some xs) (Some ys) (Ok x) = xs ≡ x ∷ ys
Accepts (Some xs) (Some ys) (Err e) = ys ≡ xs

-- the links that wait, and how often none did
pub record Arriving (L : Type 0) : Type 0 where
  pub links : List L
  pub faults : ℕ

-- how many jobs were started, after one more try
abbrev pub started_after : {E : Type 0} → ℕ → Result ⊤ E → ℕ
started_after n (Ok done) = n + 1
started_after n (Err e) = n

-- whether the job was started
abbrev pub is_started : {T E : Type 0} → Result T E → Bool
is_started (Ok done) = true
is_started (Err e) = false

-- how many jobs were started, and which calls fail
pub record Starting : Type 0 where
  pub started : ℕ
  pub calls : Calls

abbrev pub after_start : {E : Type 0} → Starting → Result ⊤ E → Starting
after_start s (Ok done) = record s { started = s.started + 1; calls = made_well s.calls }
after_start s (Err e) = record s { calls = made_badly s.calls }
