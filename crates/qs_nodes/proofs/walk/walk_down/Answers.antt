use Rattle.std.proofs.Common.{◌≡◌, ℕ, suc, ◌+◌, ◌-◌, ◌<◌, List, ◌∷◌, length, drop, sym, ◌∙◌, ap, subst, arith}
use Rattle.std.proofs.lemmas.List.{at_drop_more}
use Rattle.qs_nodes.specs.declared.node.Node.{Node}
use Rattle.qs_nodes.specs.declared.walk.Walk.{Walk}
use Rattle.qs_nodes.specs.Ways.{walk_begun, walked_past, walked, CanPass}
use Rattle.qs_nodes.proofs.Inside.{rooted_passes}
use Rattle.qs_nodes.proofs.walk.walk_down.Goals as goal

pub passed-walk-requires : goal.passed-walk-requires
passed-walk-requires c =
    let nodes : List Node = c.args.nodes.now in
    let x : Node = c.index-nodes-nodes.result in
    let w : Walk = walk_begun c.args.place c.args.node.size in
    let i : ℕ = length nodes - 1 - c.loop-done.done in
    let inside : i < length nodes = omega (arith, c.loop-done-test.true) in
    let next : suc i ≡ length nodes - c.loop-done.done = omega (arith, c.loop-done-test.true) in
    subst (CanPass x) (ap (λ (k : ℕ). walked (drop k nodes) w) next ∙ sym c.loop-done.invariant)
    (rooted_passes c.requires.tree.0 nodes c.args.place c.args.node i x c.requires.tree.1.0 c.requires.tree.1.1 c.requires.found inside
    (sym c.index-nodes-nodes.is))

pub loop-done-preserved : goal.loop-done-preserved
loop-done-preserved c =
    let nodes : List Node = c.args.nodes.now in
    let x : Node = c.index-nodes-nodes.result in
    let w : Walk = walk_begun c.args.place c.args.node.size in
    let i : ℕ = length nodes - 1 - c.loop-done.done in
    let inside : i < length nodes = omega (arith, c.loop-done-test.true) in
    let next : length nodes - c.loop-done.done ≡ i + 1 = omega (arith, c.loop-done-test.true) in
    let here : i ≡ length nodes - (c.loop-done.done + 1) = omega arith in
    c.passed-walk.ensures
    ∙ ap (walked_past x) (c.loop-done.invariant ∙ ap (λ (k : ℕ). walked (drop k nodes) w) next)
    ∙ ap (λ (k : Node). walked (k ∷ drop (i + 1) nodes) w) c.index-nodes-nodes.is
    ∙ sym (at_drop_more (λ (ns : List Node). walked ns w) nodes i x inside)
    ∙ ap (λ (k : ℕ). walked (drop k nodes) w) here
