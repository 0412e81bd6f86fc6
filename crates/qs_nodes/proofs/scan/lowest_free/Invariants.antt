use Rattle.std.specs.Prelude.{◌≡◌, ℕ, ◌<◌, true}
use Rattle.qs_nodes.specs.Nodes.{is_taken}
use Rattle.qs_nodes.proofs.scan.lowest_free.Given as goal

abbrev pub invariant-loop-place : goal.invariant-loop-place
invariant-loop-place l = (k : ℕ) → k < l.place → is_taken l.nodes k ≡ true
