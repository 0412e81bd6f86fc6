-- What a tally counts.
use Rattle.std.proofs.Common.{◌≡◌, ℕ, ◌+◌, ◌%◌, ◌^◌, ◌<◌, List, [], ◌∷◌, length, ap, mod-eq_of_lt, arith}
use Rattle.qs_part.specs.Histories.{Call, lawful, StandsFor}
use Rattle.qs_turn_uses.specs.declared.tally.Tally.{Tally}
use Rattle.qs_turn_uses.specs.Tallies.{counts, tally_fits, tally_fixed}

-- the count rises by the number of calls
pub counted : (s : Tally) (cs : List (Call (Unit {0}) ℕ)) (t : Tally) → StandsFor (lawful tally_fixed tally_fits counts) s cs t → s.count + length cs < 2 ^ 64 → t.count ≡ s.count + length cs
counted s [] t runs small = let e : s.count ≡ t.count = ap (λ (x : Tally). x.count) runs in omega arith
counted s (c ∷ cs) t runs small =
    let next : Tally = runs.0 in
    let a : next.count ≡ (s.count + 1) % 2 ^ 64 = ap (λ (x : Tally). x.count) runs.1.1.0 in
    let b : (s.count + 1) % 2 ^ 64 ≡ s.count + 1 = mod-eq_of_lt (omega arith) in
    let h = counted next cs t runs.2 (omega arith) in
    omega arith
