-- Crashes of a disk: which of the contents that a crash may leave it leaves.
use Rattle.std.specs.Prelude.{◌≡◌, ◌==◌, ℕ, ◌-◌, List, [], ◌∷◌, Some, if◌then◌else◌, length, min, IsTrue, Contains, slice_index_or}
use Rattle.qs_outside.specs.declared.crash.CrashChoice.{CrashChoice}
use Rattle.qs_outside.specs.Blocks.{Seen, Fixed, Same}
use Rattle.qs_outside.specs.Rigged.{no_plans}

-- the number that the last pair of a block gives, else the rest's
abbrev pub number_of : ℕ → List (ℕ × ℕ) → ℕ → ℕ
number_of rest [] b = rest
number_of rest (pair ∷ picks) b = number_of (if pair.0 == b then pair.1 else rest) picks b

-- the number that is chosen for a block
abbrev pub chosen : CrashChoice → ℕ → ℕ
chosen choice b = number_of choice.rest choice.picks b

-- the content of this number, counted from 0, or the last one
abbrev pub left_of : List (List ℕ) → ℕ → List ℕ
left_of past n = slice_index_or past (min n (length past - 1)) []

-- A disk crashed: each block holds the chosen one of the contents that a crash might leave, and another crash leaves
-- just that. No failure is planned any more, and none is counted.
pub record Crashes (choice : CrashChoice) (old new : Seen) : Type 0 where
  pub fixed : Fixed old new
  pub now : IsTrue old.tells → Same (λ b. left_of (old.past b) (chosen choice b)) new.now
  pub among : IsTrue old.tells → (b : ℕ) → Contains (old.past b) (new.now b)
  pub past : IsTrue old.tells → Same (λ b. new.now b ∷ []) new.past
  pub planned : new.planned ≡ Some no_plans
  pub faults : new.faults ≡ old.faults
