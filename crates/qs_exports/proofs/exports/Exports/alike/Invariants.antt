use Rattle.std.specs.Prelude.{◌≡◌, ℕ, ◌<◌, false}
use Rattle.qs_exports.specs.Standing.{has_alike_at}
use Rattle.qs_exports.proofs.exports.Exports.alike.Given as goal

abbrev pub invariant-loop-place : goal.invariant-loop-place
invariant-loop-place l = (k : ℕ) → k < l.place → has_alike_at l.fn.self l.fn.id l.fn.name k ≡ false
