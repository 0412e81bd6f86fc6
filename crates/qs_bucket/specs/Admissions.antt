-- What a list of admissions owes, after QEMU's util/throttle.c: what was admitted, less what leaked since.
use Rattle.std.specs.Prelude.{◌≡◌, ℕ, ◌+◌, ◌-◌, ◌*◌, ◌≤◌, max, nat_le, ◌&&◌, List, [], ◌∷◌, ◌++◌, filter}

-- an admission: the reading at which it was counted, in nanoseconds, and its nano-units
pub record Admission : Type 0 where
  pub reading : ℕ
  pub units : ℕ

-- the nano-units of admissions together
abbrev pub units_of : List Admission → ℕ
units_of [] = 0
units_of (a ∷ xs) = a.units + units_of xs

-- what is owed at reading t: the greatest of 0 and, over each suffix of the admissions, of what the suffix admitted
-- less what leaked since it began
abbrev pub owed : ℕ → List Admission → ℕ → ℕ
owed rate [] t = 0
owed rate (a ∷ xs) t = max (units_of (a ∷ xs) - rate * (t - a.reading)) (owed rate xs t)

-- no admission was counted after reading t
abbrev pub UpTo : ℕ → List Admission → Type 0
UpTo t [] = Unit {0}
UpTo t (a ∷ xs) = (a.reading ≤ t) × UpTo t xs

-- each admission comes no earlier than those before it, and where these owe no more than the bucket
abbrev pub AdmittedByRule : ℕ → ℕ → List Admission → Type 0
AdmittedByRule rate bucket xs =
    (before : List Admission) (a : Admission) (rest : List Admission) → before ++ a ∷ rest ≡ xs →
    UpTo a.reading before × (owed rate before a.reading ≤ bucket)

-- the admissions that were counted from reading t1 to reading t2
abbrev pub window : ℕ → ℕ → List Admission → List Admission
window t1 t2 xs = filter (λ a. nat_le t1 a.reading && nat_le a.reading t2) xs

-- the nano-units of the last admission
abbrev pub last_units : List Admission → ℕ
last_units [] = 0
last_units (a ∷ []) = a.units
last_units (a ∷ b ∷ xs) = last_units (b ∷ xs)
