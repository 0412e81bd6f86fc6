use Rattle.std.specs.Prelude.{ℕ, ◌<◌}
use Rattle.qs_perm.specs.Users.{ConflictAt}
use Rattle.qs_perm.proofs.users.first_against.Given as goal

abbrev pub invariant-loop-second : goal.invariant-loop-second
invariant-loop-second l = (n : ℕ) → n < l.second → ConflictAt l.users l.fn.first n → ⊥
