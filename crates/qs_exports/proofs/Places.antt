-- The export at a place, after an operation.
use Rattle.std.proofs.Common.{◌≡◌, ℕ, zero, suc, List, [], ◌∷◌, ◌++◌, Bool, true, false, refl, sym, ◌∙◌, ap, subst, true≢false}
use Rattle.std.specs.Prelude.{◌==◌, ◌||◌, Option, Some, None, find, cond}
use Rattle.std.specs.List.{remove, slice_get, slice_set}
use Rattle.std.proofs.lemmas.Bool.{eqb-true, eq-eqb}
use Rattle.std.proofs.lemmas.Option.{none-some, same_Some}
use Rattle.qs_exports.specs.declared.export.Export.{Export}
use Rattle.qs_exports.specs.Standing.{is_place_taken, stands_at, AreSeated}

-- the export at a place
abbrev at_place : ℕ → List Export → Option Export
at_place k xs = find (stands_at k) xs

pub at_more : (xs : List Export) (y x : Export) (k : ℕ) → at_place k xs ≡ Some x → at_place k (xs ++ y ∷ []) ≡ Some x
at_more [] y x k at = absurd (none-some x at)
at_more (z ∷ xs) y x k at = go (z.place == k) refl (λ there. at_more xs y x k there)
  where
    go : (t : Bool) → (z.place == k) ≡ t → (at_place k xs ≡ Some x → at_place k (xs ++ y ∷ []) ≡ Some x) →
        at_place k (z ∷ (xs ++ y ∷ [])) ≡ Some x
    go true e behind =
        ap (λ (b : Bool). cond b (Some z) (at_place k (xs ++ y ∷ []))) e
        ∙ sym (ap (λ (b : Bool). cond b (Some z) (at_place k xs)) e) ∙ at
    go false e behind =
        ap (λ (b : Bool). cond b (Some z) (at_place k (xs ++ y ∷ []))) e
        ∙ behind (sym (ap (λ (b : Bool). cond b (Some z) (at_place k xs)) e) ∙ at)

-- an export that goes, or another in its stead, leaves the exports at other places where they are
pub at_less : (xs : List Export) (i : ℕ) (y : Export) (k : ℕ) → slice_get xs i ≡ Some y → (y.place == k) ≡ false →
    at_place k (remove xs i) ≡ at_place k xs
at_less [] i y k at apart = absurd (none-some y at)
at_less (z ∷ xs) zero y k at apart =
    sym (ap (λ (b : Bool). cond b (Some z) (at_place k xs))
    (ap (λ (e : Export). e.place == k) (same_Some z y at) ∙ apart))
at_less (z ∷ xs) (suc i) y k at apart =
    ap (λ (f : Option Export). cond (z.place == k) (Some z) f) (at_less xs i y k at apart)

pub at_other : (xs : List Export) (i : ℕ) (y n : Export) (k : ℕ) → slice_get xs i ≡ Some y → n.place ≡ y.place →
    (y.place == k) ≡ false → at_place k (slice_set xs i n) ≡ at_place k xs
at_other [] i y n k at place apart = absurd (none-some y at)
at_other (z ∷ xs) zero y n k at place apart =
    ap (λ (b : Bool). cond b (Some n) (at_place k xs)) (ap (λ (p : ℕ). p == k) place ∙ apart)
    ∙ sym (ap (λ (b : Bool). cond b (Some z) (at_place k xs))
    (ap (λ (e : Export). e.place == k) (same_Some z y at) ∙ apart))
at_other (z ∷ xs) (suc i) y n k at place apart =
    ap (λ (f : Option Export). cond (z.place == k) (Some z) f) (at_other xs i y n k at place apart)

-- a free place has no export
pub none_at : (xs : List Export) (k : ℕ) → is_place_taken xs k ≡ false → at_place k xs ≡ None
none_at [] k free = refl
none_at (z ∷ xs) k free = go (z.place == k) refl (λ free. none_at xs k free)
  where
    go : (t : Bool) → (z.place == k) ≡ t → (is_place_taken xs k ≡ false → at_place k xs ≡ None) →
        at_place k (z ∷ xs) ≡ None
    go true e behind = absurd (true≢false (sym (ap (λ (b : Bool). b || is_place_taken xs k) e) ∙ free))
    go false e behind =
        ap (λ (b : Bool). cond b (Some z) (at_place k xs)) e
        ∙ behind (sym (ap (λ (b : Bool). b || is_place_taken xs k) e) ∙ free)

-- the export of a number is found at its place, and so is another in its stead
pub found_at_place : (xs : List Export) (i : ℕ) (y : Export) → AreSeated xs → slice_get xs i ≡ Some y →
    at_place y.place xs ≡ Some y
found_at_place [] i y seated at = absurd (none-some y at)
found_at_place (z ∷ xs) zero y seated at =
    let is : z ≡ y = same_Some z y at in
    ap (λ (b : Bool). cond b (Some z) (at_place y.place xs))
    (eq-eqb z.place y.place (ap (λ (e : Export). e.place) is)) ∙ ap (λ (e : Export). Some e) is
found_at_place (z ∷ xs) (suc i) y seated at = go (z.place == y.place) refl (found_at_place xs i y seated.3 at)
  where
    go : (t : Bool) → (z.place == y.place) ≡ t → at_place y.place xs ≡ Some y → at_place y.place (z ∷ xs) ≡ Some y
    go true e below =
        absurd (none-some y (sym (none_at xs y.place
        (subst (λ (p : ℕ). is_place_taken xs p ≡ false) (eqb-true z.place y.place e) seated.2)) ∙ below))
    go false e below = ap (λ (b : Bool). cond b (Some z) (at_place y.place xs)) e ∙ below

pub set_at_place : (xs : List Export) (i : ℕ) (y n : Export) → AreSeated xs → slice_get xs i ≡ Some y →
    n.place ≡ y.place → at_place y.place (slice_set xs i n) ≡ Some n
set_at_place [] i y n seated at place = absurd (none-some y at)
set_at_place (z ∷ xs) zero y n seated at place =
    ap (λ (b : Bool). cond b (Some n) (at_place y.place xs)) (eq-eqb n.place y.place place)
set_at_place (z ∷ xs) (suc i) y n seated at place =
    go (z.place == y.place) refl (set_at_place xs i y n seated.3 at place)
  where
    there : at_place y.place xs ≡ Some y
    there = found_at_place xs i y seated.3 at

    go : (t : Bool) → (z.place == y.place) ≡ t → at_place y.place (slice_set xs i n) ≡ Some n →
        at_place y.place (z ∷ slice_set xs i n) ≡ Some n
    go true e below =
        absurd (none-some y (sym (none_at xs y.place
        (subst (λ (p : ℕ). is_place_taken xs p ≡ false) (eqb-true z.place y.place e) seated.2)) ∙ there))
    go false e below = ap (λ (b : Bool). cond b (Some z) (at_place y.place (slice_set xs i n))) e ∙ below
