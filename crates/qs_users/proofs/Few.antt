-- No more users than nodes and exports.
use Rattle.std.proofs.Common.{◌≡◌, ℕ, ◌+◌, ◌≤◌, List, length, map, Bool, not, refl, sym, subst, arith}
use Rattle.std.specs.List.{filter}
use Rattle.std.proofs.lemmas.List.{length-map}
use Rattle.std.proofs.lemmas.List.Filters.{length-filter_both}

few_filtered : {X : Type 0} (p : X → Bool) (xs : List X) → length (filter p xs) ≤ length xs
few_filtered p xs =
    let both : length (filter p xs) + length (filter (λ x. not (p x)) xs) ≡ length xs =
    length-filter_both p (λ x. not (p x)) (λ x. refl) xs in
    omega (arith, both)

-- what passes a test, seen through a function
pub few_passed : {X Y : Type 0} (f : X → Y) (p : X → Bool) (xs : List X) → length (map f (filter p xs)) ≤ length xs
few_passed f p xs = subst (λ (n : ℕ). n ≤ length xs) (sym (length-map (filter p xs) f)) (few_filtered p xs)
