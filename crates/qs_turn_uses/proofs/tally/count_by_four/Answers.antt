use Rattle.std.proofs.Common.{◌≡◌, ℕ, ◌*◌, ◌^◌, ◌<◌, length, ap, ◌∙◌, subst, arith}
use Rattle.qs_part.specs.Histories.{lawful, StandsFor}
use Rattle.qs_turn.specs.Words.{seen}
use Rattle.qs_turn.proofs.Histories.{merges_length}
use Rattle.qs_turn_uses.specs.declared.tally.Tally.{Tally}
use Rattle.qs_turn_uses.specs.Tallies.{counts, tally_fits, tally_fixed}
use Rattle.qs_turn_uses.proofs.Counting.{counted}
use Rattle.qs_turn_uses.proofs.tally.count_by_four.Goals as goal

pub returns : goal.returns
returns g c =
    let none = ap length c.in_ok-turn.ensures.first.2 in
    let second = ap length c.split-second.ensures.given.2 in
    let third = ap length c.split-third.ensures.given.2 in
    let fourth = ap length c.split-fourth.ensures.given.2 in
    let first = ap length (c.split-fourth.ensures.first.2 ∙ c.split-third.ensures.first.2 ∙ c.split-second.ensures.first.2) in
    let one = c.join-one.ensures.first.0.made in
    let two = c.join-one.ensures.first.1.made in
    let three = c.join-one.ensures.second.0.made in
    let four = c.join-one.ensures.second.1.made in
    let a = merges_length _ _ _ c.join.ensures.joined.both in
    let b = merges_length _ _ _ c.join-2.ensures.joined.both in
    let d = merges_length _ _ _ c.join-3.ensures.joined.both in
    let whole = ap length c.close.ensures.own in
    let n : ℕ = c.args.n in
    let all : length (seen c.join-3.new.pass) ≡ 4 * n = omega arith in
    let runs : StandsFor (lawful tally_fixed tally_fits counts) (record { count = 0; spins = c.args.spins }) (seen c.join-3.new.pass) c.close.result =
    subst (λ (o : Tally). StandsFor (lawful tally_fixed tally_fits counts) o (seen c.join-3.new.pass) c.close.result) c.in_ok-turn.ensures.turn.0 c.close.ensures.part in
    let small : 4 * n < 2 ^ 64 = c.requires in
    let found = counted _ _ _ runs (omega arith) in
    omega arith
