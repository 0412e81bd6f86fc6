-- How two histories can lie in a third.
use Rattle.std.specs.Prelude.{◌≡◌, ◌⊎◌, List, [], ◌∷◌, ◌++◌}

-- a list begins with another
abbrev pub StartsWith : {A : Type 0} → List A → List A → Type 0
StartsWith {A} long front = (rest : List A) × (long ≡ front ++ rest)

-- the third list is put together from the two others, each of which keeps its order
abbrev pub Merges : {A : Type 0} → List A → List A → List A → Type 0
Merges xs ys [] = (xs ≡ []) × (ys ≡ [])
Merges {A} xs ys (z ∷ zs) =
    ((rest : List A) × (xs ≡ z ∷ rest) × Merges rest ys zs) ⊎ ((rest : List A) × (ys ≡ z ∷ rest) × Merges xs rest zs)
