use Rattle.std.proofs.Common.{◌≡◌, ◌+◌, ◌-◌, ◌≤◌, ◌++◌, [], ◌∷◌, length}
use Rattle.std.specs.Prelude.{drop}
use Rattle.qs_users.specs.Taken.{exported}
use Rattle.qs_users.specs.Conflicts.{node_users, with_users}
use Rattle.qs_users.proofs.users.Users.list_nodes.Given as goal

abbrev pub invariant-loop-node : goal.invariant-loop-node
invariant-loop-node l =
    (with_users l.self (node_users (drop l.node-index l.nodes) l.nodes (exported l.exports ++ l.new ∷ []) l.place)
    ≡ with_users l.initial.self (node_users l.nodes l.nodes (exported l.exports ++ l.new ∷ []) l.place))
    × (length l.self.who + (length l.nodes - l.node-index) ≤ 128)
    × (length l.self.who ≤ length l.initial.self.who + l.node-index)
