-- A function with one value changed.
use Rattle.std.specs.Prelude.{ℕ, ◌==◌, cond, List, [], ◌∷◌}

-- f, but v at k
unfoldable pub put : {X : Type 0} → (ℕ → X) → ℕ → X → ℕ → X
put f k v j = cond (j == k) v (f j)

-- a list without the first n in it
abbrev pub without : ℕ → List ℕ → List ℕ
without n [] = []
without n (m ∷ ms) = cond (m == n) ms (m ∷ without n ms)
