-- Pairs of users by the number of the earlier one.
use Rattle.std.proofs.Common.{◌≡◌, ℕ, ◌+◌, ◌<◌, List, Bool, true, false, refl, subst, arith}
use Rattle.std.specs.Prelude.{◌==◌}
use Rattle.std.proofs.lemmas.Bool.Decides.{nat_tests}
use Rattle.qs_perm.specs.declared.users.UserPerms.{UserPerms}
use Rattle.qs_perm.specs.Users.{ConflictAt}

-- no user before this one conflicts with a later one
abbrev pub NoneBefore : List UserPerms → ℕ → Type 0
NoneBefore users first = (i j : ℕ) → i < first → ConflictAt users i j → ⊥

pub one_more : (users : List UserPerms) (first : ℕ) → NoneBefore users first → ((j : ℕ) → ConflictAt users first j → ⊥) →
    NoneBefore users (first + 1)
one_more users first old new i j inside pair = go (i == first) refl
  where
    go : (b : Bool) → (i == first) ≡ b → ⊥
    go true e = let same : i ≡ first = grind (arith, nat_tests) in new j (subst (λ k. ConflictAt users k j) same pair)
    go false e = old i j (grind (arith, nat_tests)) pair
