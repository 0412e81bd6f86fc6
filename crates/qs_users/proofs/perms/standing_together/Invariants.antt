use Rattle.std.proofs.Common.{◌≡◌}
use Rattle.std.specs.Prelude.{drop, map}
use Rattle.std.specs.List.{filter, fold}
use Rattle.qs_perm.specs.Users.{union_of}
use Rattle.qs_users.specs.Taken.{exported, exports_node, made_perms, exports_together}
use Rattle.qs_users.proofs.perms.standing_together.Given as goal

abbrev pub invariant-loop-export : goal.invariant-loop-export
invariant-loop-export l =
    fold union_of l.together (map made_perms (filter (exports_node l.place) (exported (drop l.export-index l.exports))))
    ≡ exports_together (exported l.exports) l.place
