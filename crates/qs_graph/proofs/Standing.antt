-- Places of exports that are read after a write, and what a search in them tells.
use Rattle.std.proofs.Common.{◌≡◌, ℕ, ◌<◌, ◌≤◌, zero, suc, List, [], ◌∷◌, length, replicate, Bool, true, false, refl, sym, ◌∙◌, subst, arith}
use Rattle.std.specs.Prelude.{◌==◌, nat_lt, Option, Some, None, find, cond}
use Rattle.std.specs.List.{slice_set}
use Rattle.std.proofs.lemmas.Bool.Decides.{nat_tests}
use Rattle.std.proofs.lemmas.List.{get_or-set_same, get_or-set_other, get_or_past, length-set, get_or-replicate, length-replicate}
use Rattle.qs_graph.specs.declared.export.Export.{Export}
use Rattle.qs_graph.specs.Exports.{conflicts, export_at, first_against, standing}

-- what holds of a place, and of what is written at k, holds of the place after the write
pub at_set : (P : Option Export → Type 0) (places : List (Option Export)) (k : ℕ) (p : Option Export) (j : ℕ) →
    P (export_at places j) → (j ≡ k → P p) → P (export_at (slice_set places k p) j)
at_set P places k p j old new = go (j == k) (nat_lt k (length places)) refl refl
  where
    go : (a b : Bool) → (j == k) ≡ a → nat_lt k (length places) ≡ b → P (export_at (slice_set places k p) j)
    go true true e f =
        let same : j ≡ k = grind (arith, nat_tests) in
        let inside : k < length places = grind (arith, nat_tests) in
        rw same (subst P (sym (get_or-set_same places k p None inside)) (new same))
    go true false e f =
        let past : length places ≤ j = grind (arith, nat_tests) in
        let nobody : export_at places j ≡ None = get_or_past places j None past in
        let still : export_at (slice_set places k p) j ≡ None =
        get_or_past (slice_set places k p) j None (omega (arith, length-set places k p, past)) in
        subst P (nobody ∙ sym still) old
    go false b e f = subst P (sym (get_or-set_other places k j p None (λ h. absurd (grind (arith, nat_tests))))) old

-- no export stands where every place is free
pub nobody : (n e : ℕ) → export_at (replicate n None) e ≡ None
nobody n e = go (nat_lt e n) refl
  where
    go : (b : Bool) → nat_lt e n ≡ b → export_at (replicate n None) e ≡ None
    go true f = get_or-replicate n e None None (grind (arith, nat_tests))
    go false f = get_or_past (replicate n None) e None (long (grind (arith, nat_tests)))
      where
        long : n ≤ e → length (replicate n (let p : Option Export = None in p)) ≤ e
        long h = grind (arith, length-replicate)

pub same_export : (x y : Export) → Some x ≡ Some y → x ≡ y
same_export x y e = cc

pub none_not : (x : Export) → None ≡ Some x → ⊥
none_not x e = cc

-- where no standing export is against a new one, it conflicts with none
pub none_against : (places : List (Option Export)) (x : Export) → first_against places x ≡ None →
    (e : ℕ) (y : Export) → export_at places e ≡ Some y → conflicts x y ≡ false
none_against [] x none e y at = absurd (none_not y (sym (get_or_past [] e None (omega arith)) ∙ at))
none_against (None ∷ ps) x none zero y at = absurd (none_not y at)
none_against (None ∷ ps) x none (suc e) y at = none_against ps x none e y at
none_against (Some z ∷ ps) x none e y at = go e (conflicts x z) refl none at (λ f. none_against ps x f)
  where
    go : (e : ℕ) (b : Bool) → conflicts x z ≡ b → cond b (Some z) (find (conflicts x) (standing ps)) ≡ None →
        export_at (Some z ∷ ps) e ≡ Some y →
        (first_against ps x ≡ None → (d : ℕ) (w : Export) → export_at ps d ≡ Some w → conflicts x w ≡ false) → conflicts x y ≡ false
    go e true is f at rest = absurd (none_not z (sym f))
    go zero false is f at rest = subst (λ (w : Export). conflicts x w ≡ false) (same_export z y at) is
    go (suc d) false is f at rest = rest f d y at
