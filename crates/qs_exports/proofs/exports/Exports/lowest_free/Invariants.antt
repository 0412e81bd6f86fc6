use Rattle.std.specs.Prelude.{◌≡◌, ℕ, ◌<◌, true}
use Rattle.qs_exports.specs.Standing.{is_place_taken}
use Rattle.qs_exports.proofs.exports.Exports.lowest_free.Given as goal

abbrev pub invariant-loop-place : goal.invariant-loop-place
invariant-loop-place l = (k : ℕ) → k < l.place → is_place_taken l.fn.self k ≡ true
