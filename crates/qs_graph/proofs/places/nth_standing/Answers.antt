-- What is left of the places, and how many standing exports are to be passed in it.
use Rattle.std.proofs.Common.{◌≡◌, ℕ, zero, suc, ◌+◌, ◌-◌, ◌<◌, List, [], ◌∷◌, length, drop, slice_index_or, Option, Some, None, refl, sym, ap, ◌∙◌, arith}
use Rattle.std.specs.List.{slice_get}
use Rattle.std.proofs.lemmas.List.{at_drop_more, drop_all}
use Rattle.qs_graph.specs.declared.export.Export.{Export}
use Rattle.qs_graph.specs.Exports.{standing}
use Rattle.qs_graph.proofs.places.nth_standing.Goals as goal
use Rattle.qs_graph.proofs.places.nth_standing.Goals.{in-Some-2, in-None}

-- with the next place in front
next : (places : List (Option Export)) (i left : ℕ) (place known : Option Export) → i < length places → place ≡ slice_index_or places i place → place ≡ known →
    slice_get (standing (known ∷ drop (i + 1) places)) left ≡ slice_get (standing (drop i places)) left
next places i left place known inside is told =
    ap (λ p. slice_get (standing (p ∷ drop (i + 1) places)) left) (sym told ∙ is) ∙ sym (at_drop_more (λ ps. slice_get (standing ps) left) places i place inside)

passed : (x : Export) (rest : List (Option Export)) (left : ℕ) → (left ≡ 0 → ⊥) → slice_get (standing rest) (left - 1) ≡ slice_get (standing (Some x ∷ rest)) left
passed x rest zero some = absurd (some refl)
passed x rest (suc n) some = let one : suc n - 1 ≡ n = omega arith in ap (slice_get (standing rest)) one

pub loop-place-preserved : goal.loop-place-preserved
loop-place-preserved c =
    let rest = drop (c.loop-place.place-index + 1) c.args.places.now in
    elim c.match-place.branch [
      | in-Some-2 w ↦
          ap (slice_get (standing rest)) w.left-is
          ∙ passed w.in-Some-2.field-0 rest c.loop-place.left w.if-left-eq0.false
          ∙ next c.args.places.now c.loop-place.place-index c.loop-place.left c.place-item.result (Some w.in-Some-2.field-0) c.loop-place-test.true c.place-item.is w.in-Some-2.is
          ∙ c.loop-place.invariant
      | in-None w ↦
          ap (slice_get (standing rest)) w.left-is
          ∙ next c.args.places.now c.loop-place.place-index c.loop-place.left c.place-item.result None c.loop-place-test.true c.place-item.is w.in-None.is
          ∙ c.loop-place.invariant
    ]

pub returns-in-Some : goal.returns-in-Some
returns-in-Some c =
    ap (slice_get (standing (Some c.in-Some.export ∷ drop (c.loop-place.place-index + 1) c.args.places.now))) (sym c.if-left-eq0.true)
    ∙ next c.args.places.now c.loop-place.place-index c.loop-place.left c.place-item.result (Some c.in-Some.export) c.loop-place-test.true c.place-item.is c.in-Some.is
    ∙ c.loop-place.invariant

pub returns : goal.returns
returns c =
    ap (λ ps. slice_get (standing ps) c.loop-place.left) (sym (drop_all c.loop-place.place-index c.args.places.now c.loop-place-test.false)) ∙ c.loop-place.invariant
