-- Lists whose elements have numbers of their own.
use Rattle.std.specs.Prelude.{◌≡◌, ℕ, ◌⊎◌, List, [], ◌∷◌, Option, Some, None, ◌==◌, if◌then◌else◌}

-- what the first element of number k has
abbrev pub find_by : {X V : Type 0} → (X → ℕ) → (X → V) → List X → ℕ → Option V
find_by key value [] k = None
find_by key value (x ∷ xs) k = if key x == k then Some (value x) else find_by key value xs k

-- some element has number k
abbrev pub HasKey : {X : Type 0} → (X → ℕ) → List X → ℕ → Type 0
HasKey key [] k = ⊥
HasKey key (x ∷ xs) k = (key x ≡ k) ⊎ HasKey key xs k

-- no two elements have one number
abbrev pub AreDistinct : {X : Type 0} → (X → ℕ) → List X → Type 0
AreDistinct key [] = Unit {0}
AreDistinct key (x ∷ xs) = (HasKey key xs (key x) → ⊥) × AreDistinct key xs
