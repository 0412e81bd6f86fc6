use Rattle.std.proofs.Common.{◌-◌, ◌++◌, [], ◌∷◌, length, Option}
use Rattle.std.specs.Prelude.{Some, reverse, take}
use Rattle.qs_part.specs.declared.graph.User.{User}
use Rattle.qs_users.specs.Taken.{exported}
use Rattle.qs_users.specs.Conflicts.{places_down, FirstClash}
use Rattle.qs_users.proofs.users.Users.first_clash.Given as goal

-- what comes first on the rest of the way comes first on the whole way
abbrev pub invariant-loop-done : goal.invariant-loop-done
invariant-loop-done l =
    (r : Option (User × User)) →
    FirstClash l.fn.nodes (exported l.fn.exports ++ l.fn.new ∷ [])
    (places_down (reverse (take (length l.fn.nodes - l.done) l.fn.nodes)) l.next) r →
    FirstClash l.fn.nodes (exported l.fn.exports ++ l.fn.new ∷ [])
    (places_down (reverse l.fn.nodes) (Some l.fn.new.node)) r
