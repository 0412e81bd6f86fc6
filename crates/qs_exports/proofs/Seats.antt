-- Each export keeps a place of its own after one export more, one less, and another in its stead.
use Rattle.std.proofs.Common.{◌≡◌, ℕ, zero, suc, ◌<◌, List, [], ◌∷◌, ◌++◌, Bool, true, false, refl, sym, ◌∙◌, ap, subst, true≢false}
use Rattle.std.specs.Prelude.{◌==◌, ◌||◌, Some}
use Rattle.std.specs.List.{remove, slice_get, slice_set}
use Rattle.std.proofs.lemmas.Bool.{eqb-true, eq-eqb}
use Rattle.std.proofs.lemmas.Option.{none-some, same_Some}
use Rattle.qs_exports.specs.declared.export.Export.{Export}
use Rattle.qs_exports.specs.Standing.{is_place_taken, AreSeated}

-- neither of the two holds
neither : (a b : Bool) → (a || b) ≡ false → (a ≡ false) × (b ≡ false)
neither true b is = absurd cc
neither false b is = (refl, is)

both_not : (a b : Bool) → a ≡ false → b ≡ false → (a || b) ≡ false
both_not a b first second = ap (λ (t : Bool). t || b) first ∙ second

pub free_more : (xs : List Export) (y : Export) (k : ℕ) → is_place_taken xs k ≡ false → (y.place == k) ≡ false →
    is_place_taken (xs ++ y ∷ []) k ≡ false
free_more [] y k free other = both_not (y.place == k) false other refl
free_more (x ∷ xs) y k free other =
    let n = neither (x.place == k) (is_place_taken xs k) free in
    both_not (x.place == k) (is_place_taken (xs ++ y ∷ []) k) n.0 (free_more xs y k n.1 other)

pub free_less : (xs : List Export) (i k : ℕ) → is_place_taken xs k ≡ false → is_place_taken (remove xs i) k ≡ false
free_less [] zero k free = refl
free_less [] (suc i) k free = refl
free_less (x ∷ xs) zero k free = (neither (x.place == k) (is_place_taken xs k) free).1
free_less (x ∷ xs) (suc i) k free =
    let n = neither (x.place == k) (is_place_taken xs k) free in
    both_not (x.place == k) (is_place_taken (remove xs i) k) n.0 (free_less xs i k n.1)

pub free_set : (xs : List Export) (i : ℕ) (x y : Export) (k : ℕ) → slice_get xs i ≡ Some x → y.place ≡ x.place →
    is_place_taken xs k ≡ false → is_place_taken (slice_set xs i y) k ≡ false
free_set [] i x y k at place free = refl
free_set (z ∷ xs) zero x y k at place free =
    let n = neither (z.place == k) (is_place_taken xs k) free in
    let is : z ≡ x = same_Some z x at in
    both_not (y.place == k) (is_place_taken xs k)
    (ap (λ (p : ℕ). p == k) (place ∙ ap (λ (e : Export). e.place) (sym is)) ∙ n.0) n.1
free_set (z ∷ xs) (suc i) x y k at place free =
    let n = neither (z.place == k) (is_place_taken xs k) free in
    both_not (z.place == k) (is_place_taken (slice_set xs i y) k) n.0 (free_set xs i x y k at place n.1)

pub seated_more : (xs : List Export) (y : Export) → AreSeated xs → y.place < 64 → y.clients < 1025 →
    is_place_taken xs y.place ≡ false → AreSeated (xs ++ y ∷ [])
seated_more [] y seated below few free = (below, few, refl, record {})
seated_more (x ∷ xs) y seated below few free =
    let n = neither (x.place == y.place) (is_place_taken xs y.place) free in (
      seated.0,
      seated.1,
      free_more xs y x.place seated.2 (turned x.place y.place n.0),
      seated_more xs y seated.3 below few n.1,
    )
  where
    turned : (a b : ℕ) → (a == b) ≡ false → (b == a) ≡ false
    turned a b apart = go (b == a) refl
      where
        go : (t : Bool) → (b == a) ≡ t → (b == a) ≡ false
        go true e = absurd (true≢false (sym (eq-eqb a b (sym (eqb-true b a e))) ∙ apart))
        go false e = e

pub seated_less : (xs : List Export) (i : ℕ) → AreSeated xs → AreSeated (remove xs i)
seated_less [] zero seated = record {}
seated_less [] (suc i) seated = record {}
seated_less (x ∷ xs) zero seated = seated.3
seated_less (x ∷ xs) (suc i) seated =
    (seated.0, seated.1, free_less xs i x.place seated.2, seated_less xs i seated.3)

pub seated_set : (xs : List Export) (i : ℕ) (x y : Export) → AreSeated xs → slice_get xs i ≡ Some x →
    y.place ≡ x.place → y.clients < 1025 → AreSeated (slice_set xs i y)
seated_set [] i x y seated at place few = record {}
seated_set (z ∷ xs) zero x y seated at place few =
    let same : y.place ≡ z.place = place ∙ ap (λ (e : Export). e.place) (sym (same_Some z x at)) in (
      subst (λ (p : ℕ). p < 64) (sym same) seated.0,
      few,
      ap (λ (p : ℕ). is_place_taken xs p) same ∙ seated.2,
      seated.3,
    )
seated_set (z ∷ xs) (suc i) x y seated at place few =
    (seated.0, seated.1, free_set xs i x y z.place at place seated.2, seated_set xs i x y seated.3 at place few)

-- an export has at most 1,024 clients
pub few_at : (xs : List Export) (i : ℕ) (x : Export) → AreSeated xs → slice_get xs i ≡ Some x → x.clients < 1025
few_at [] i x seated at = absurd (none-some x at)
few_at (z ∷ xs) zero x seated at = subst (λ (e : Export). e.clients < 1025) (same_Some z x at) seated.1
few_at (z ∷ xs) (suc i) x seated at = few_at xs i x seated.3 at

pub set_here : (xs : List Export) (i : ℕ) (x n : Export) → slice_get xs i ≡ Some x → slice_get (slice_set xs i n) i ≡ Some n
set_here [] i x n at = absurd (none-some x at)
set_here (z ∷ xs) zero x n at = refl
set_here (z ∷ xs) (suc i) x n at = set_here xs i x n at
