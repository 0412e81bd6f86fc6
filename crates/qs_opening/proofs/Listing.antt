-- The first elements of a list, one by one.
use Rattle.std.proofs.Common.{◌≡◌, ℕ, ◌+◌, ◌≤◌, inl, inr, List, [], ◌∷◌, ◌++◌, length, take, sym, ap, ◌∙◌, suc, arith}
use Rattle.std.specs.Prelude.{Option, Some}
use Rattle.std.specs.List.{slice_get}
use Rattle.std.proofs.Math.Seq.{take-suc, take-length}
use Rattle.std.proofs.lemmas.Option.{slice_get_within, get_or_from_slice_get, slice_get_cases}

take_more : {X : Type 0} (xs : List X) (n : ℕ) (x : X) → slice_get xs n ≡ Some x → take (suc n) xs ≡ take n xs ++ x ∷ []
take_more {X} xs n x at =
    take-suc xs n x (slice_get_within xs n x at) ∙ ap (λ (y : X). take n xs ++ y ∷ []) (get_or_from_slice_get xs n x x at)

module _ {X : Type 0} (xs front : List X) (n k : ℕ) (came : Option X) (looked : came ≡ slice_get xs k) (at : k ≡ n) (is : front ≡ take n xs) where
  found : slice_get xs n ≡ came
  found = ap (λ (j : ℕ). slice_get xs j) (sym at) ∙ sym looked

  -- one more came behind the first ones
  pub front_more : (more : List X) (m : ℕ) (x : X) → came ≡ Some x → more ≡ front ++ x ∷ [] → m ≡ n + 1 → (m ≤ length xs) × (more ≡ take m xs)
  front_more more m x some pushed next =
      let at_x : slice_get xs n ≡ Some x = found ∙ some in
      let one : m ≡ suc n = omega (arith, next) in (
        omega (arith, next, slice_get_within xs n x at_x),
        pushed ∙ ap (λ (ys : List X). ys ++ x ∷ []) is ∙ sym (take_more xs n x at_x) ∙ ap (λ (j : ℕ). take j xs) (sym one),
      )

  -- no more came: they are all
  pub front_whole : ((x : X) → came ≡ Some x → ⊥) → n ≤ length xs → front ≡ xs
  front_whole none few =
      let past : length xs ≤ n =
      elim (slice_get_cases xs n).1 [
        | inl some ↦ absurd (none some.0 (sym found ∙ some.2))
        | inr past ↦ past.0
      ] in
      let all : n ≡ length xs = omega (arith, few, past) in
      is ∙ ap (λ (j : ℕ). take j xs) all ∙ take-length xs
