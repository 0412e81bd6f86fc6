-- Searches in a list with one element more in front.
use Rattle.std.proofs.Common.{◌≡◌, List, [], ◌∷◌, Bool, true, false, refl, sym, ◌∙◌, ap}
use Rattle.std.specs.Prelude.{Some, None, find, cond, ◌||◌}
use Rattle.std.specs.List.{list_any}
use Rattle.std.proofs.lemmas.Option.{none-some}

pub find_hit : {X : Type 0} (test : X → Bool) (x : X) (xs : List X) → test x ≡ true → find test (x ∷ xs) ≡ Some x
find_hit test x xs is = ap (λ (b : Bool). cond b (Some x) (find test xs)) is

pub find_miss : {X : Type 0} (test : X → Bool) (x : X) (xs : List X) → test x ≡ false →
    find test (x ∷ xs) ≡ find test xs
find_miss test x xs is = ap (λ (b : Bool). cond b (Some x) (find test xs)) is

-- where nothing is found, the first doesn't pass, and nothing is found behind it
pub none_first : {X : Type 0} (test : X → Bool) (x : X) (xs : List X) → find test (x ∷ xs) ≡ None → test x ≡ false
none_first test x xs is = go (test x) refl
  where
    go : (b : Bool) → test x ≡ b → test x ≡ false
    go true e = absurd (none-some x (sym is ∙ find_hit test x xs e))
    go false e = e

pub none_behind : {X : Type 0} (test : X → Bool) (x : X) (xs : List X) → find test (x ∷ xs) ≡ None →
    find test xs ≡ None
none_behind test x xs is = sym (find_miss test x xs (none_first test x xs is)) ∙ is

pub none_both : {X : Type 0} (test : X → Bool) (x : X) (xs : List X) → test x ≡ false → find test xs ≡ None →
    find test (x ∷ xs) ≡ None
none_both test x xs here is = find_miss test x xs here ∙ is

-- where no element passes, none is found
pub none_of_any : {X : Type 0} (test : X → Bool) (xs : List X) → list_any test xs ≡ false → find test xs ≡ None
none_of_any test [] is = refl
none_of_any test (x ∷ xs) is = go (test x) refl (none_of_any test xs) is
  where
    go : (b : Bool) → test x ≡ b → (list_any test xs ≡ false → find test xs ≡ None) →
        (b || list_any test xs) ≡ false → find test (x ∷ xs) ≡ None
    go true e more is = absurd cc
    go false e more is = none_both test x xs e (more is)
