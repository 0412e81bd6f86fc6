use Rattle.std.proofs.Common.{◌≡◌, ◌+◌, ◌-◌, ◌≤◌, length}
use Rattle.std.specs.Prelude.{drop}
use Rattle.qs_users.specs.Taken.{exported}
use Rattle.qs_users.specs.Conflicts.{export_users, with_users}
use Rattle.qs_users.proofs.users.Users.list_exports.Given as goal

abbrev pub invariant-loop-export : goal.invariant-loop-export
invariant-loop-export l =
    (with_users l.self (export_users (exported (drop l.export-index l.exports)) l.place)
    ≡ with_users l.initial.self (export_users (exported l.exports) l.place))
    × (length l.self.who + (length l.exports - l.export-index) ≤ 128)
    × (length l.self.who ≤ length l.initial.self.who + l.export-index)
