-- A quotient rounded up is 0 just where nothing is divided.
use Rattle.std.proofs.Common.{◌≡◌, ℕ, ◌-◌, ◌*◌, ◌<◌, ◌≤◌, arith}
use Rattle.std.specs.Int.{div_ceil}
use Rattle.std.proofs.Math.Nat.{zero-div, zero-mod}
use Rattle.std.proofs.lemmas.Grind.{div_ceil_times}

-- nothing is above the bucket
pub none_of_ceil : (a b r : ℕ) → div_ceil (a - b) r ≡ 0 → 0 < r → a ≤ b
none_of_ceil a b r none here =
    let times : a - b ≤ div_ceil (a - b) r * r = (div_ceil_times (a - b) r here).0 in
    let zero_times : a - b ≤ 0 * r = rw none at times in
    omega arith

-- what isn't above the bucket gives no wait
pub ceil_of_none : (a b r : ℕ) → a ≤ b → 0 < r → div_ceil (a - b) r ≡ 0
ceil_of_none a b r below here =
    let nothing : a - b ≡ 0 = omega arith in
    rw nothing (omega (arith, zero-div r, zero-mod r))
