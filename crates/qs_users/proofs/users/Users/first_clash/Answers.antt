use Rattle.std.proofs.Common.{rules, ◌≡◌, ℕ, ◌+◌, ◌-◌, ◌<◌, ◌++◌, List, [], ◌∷◌, length, sym, ◌∙◌, ap, subst, arith}
use Rattle.std.specs.Prelude.{Option, Some, None, reverse, take}
use Rattle.qs_nodes.specs.declared.node.Node.{Node}
use Rattle.qs_exports.specs.declared.export.NewExport.{NewExport}
use Rattle.qs_users.specs.Taken.{exported}
use Rattle.qs_users.specs.Conflicts.{places_down, ClashAt, FirstClash, UsersValue}
use Rattle.qs_users.proofs.Downward.{clashes_here, goes_on, newest_of, passes_by}
use Rattle.qs_users.proofs.users.Users.first_clash.Goals as goal
use Rattle.qs_users.proofs.users.Users.first_clash.Goals.{then-is_next+in-None, else-is_next}

-- the nodes that are left, with the newest of them first
left_is : (nodes : List Node) (done : ℕ) (n : Node) → done < length nodes →
    reverse (take (length nodes - 1 - done + 1) nodes) ≡ n ∷ reverse (take (length nodes - 1 - done) nodes) →
    reverse (take (length nodes - done) nodes) ≡ n ∷ reverse (take (length nodes - (done + 1)) nodes)
left_is nodes done n inside is =
    let first : length nodes - done ≡ length nodes - 1 - done + 1 = omega (arith, inside) in
    let last : length nodes - 1 - done ≡ length nodes - (done + 1) = omega arith in
    ap (λ (k : ℕ). reverse (take k nodes)) first ∙ is ∙ ap (λ (k : ℕ). n ∷ reverse (take k nodes)) last

pub returns-in-Some : goal.returns-in-Some
returns-in-Some c =
    let nodes : List Node = c.args.nodes.now in
    let n : Node = c.index-nodes-nodes.result in
    let older : List Node = reverse (take (length nodes - (c.loop-done.done + 1)) nodes) in
    let exports : List NewExport = exported c.args.exports.now ++ c.args.new.now ∷ [] in
    let inside : length nodes - 1 - c.loop-done.done < length nodes = omega (arith, c.loop-done-test.true) in
    let is : reverse (take (length nodes - c.loop-done.done) nodes) ≡ n ∷ older =
    left_is nodes c.loop-done.done n c.loop-done-test.true
    (newest_of nodes (length nodes - 1 - c.loop-done.done) n inside c.index-nodes-nodes.is) in
    c.loop-done.invariant (Some c.in-Some.pair)
    (subst (λ (ns : List Node). FirstClash nodes exports (places_down ns c.loop-done.next) (Some c.in-Some.pair)) (sym is)
    (clashes_here nodes older exports n c.loop-done.next c.in-Some.pair (search rules)
    (subst (λ (u : UsersValue). ClashAt u (Some c.in-Some.pair)) c.list.ensures
    (subst (ClashAt c.list.new.self) c.in-Some.is c.clash.ensures))))

pub loop-done-preserved : goal.loop-done-preserved
loop-done-preserved c r rest =
    let nodes : List Node = c.args.nodes.now in
    let n : Node = c.index-nodes-nodes.result in
    let older : List Node = reverse (take (length nodes - (c.loop-done.done + 1)) nodes) in
    let exports : List NewExport = exported c.args.exports.now ++ c.args.new.now ∷ [] in
    let inside : length nodes - 1 - c.loop-done.done < length nodes = omega (arith, c.loop-done-test.true) in
    let is : reverse (take (length nodes - c.loop-done.done) nodes) ≡ n ∷ older =
    left_is nodes c.loop-done.done n c.loop-done-test.true
    (newest_of nodes (length nodes - 1 - c.loop-done.done) n inside c.index-nodes-nodes.is) in
    c.loop-done.invariant r
    (subst (λ (ns : List Node). FirstClash nodes exports (places_down ns c.loop-done.next) r) (sym is)
    (elim c.if-is_next.branch [
      | then-is_next+in-None w ↦ goes_on nodes older exports n c.loop-done.next r (search rules)
          (subst (λ (u : UsersValue). ClashAt u None) w.list.ensures
          (subst (ClashAt w.list.new.self) w.in-None.is w.clash.ensures))
          (subst (λ (next : Option ℕ). FirstClash nodes exports (places_down older next) r) (w.next-is ∙ w.child-next.ensures) rest)
      | else-is_next w ↦ passes_by nodes older exports n c.loop-done.next r (search rules)
          (subst (λ (next : Option ℕ). FirstClash nodes exports (places_down older next) r) w.next-is rest)
    ]))
