-- A session's name among those that came, looked for by a test that tells whether two names are one.
use Rattle.std.proofs.Common.{◌≡◌, ◌∙◌, ℕ, ◌-◌, Bool, false, List, [], ◌++◌, length, nat_eq, Some, Ok, Err, inl, sym, ap, refl, subst, true≢false}
use Rattle.std.proofs.lemmas.Bool.Decides.{Decides-and, Decides-eqb, not_from_Decides}
use Rattle.std.proofs.lemmas.List.Folds.{list_any_at}
use Rattle.std.proofs.lemmas.List.Quantifiers.{position-Some}
use Rattle.std.proofs.lemmas.Slice.Eq.{slice_eq-Decides}
use Rattle.std.proofs.Math.Seq.{take-append_seam}
use Rattle.std.specs.Bool.{Decides}
use Rattle.std.specs.Cmp.Lexicographic.{pointwise}
use Rattle.std.specs.List.{list_any, position}
use Rattle.std.specs.Prelude.{◌&&◌, replicate, Result, IfOk, slice_index_or, take}
use Rattle.qs_bytes.specs.declared.memory.Memory.{Memory}
use Rattle.qs_replay_lines.specs.Tables.{GivesName, IsKnown, Lacks, Names}

-- a name in its room, as it is kept
abbrev roomed : List ℕ → List ℕ
roomed x = x ++ replicate (8 - length x) 0

-- names are told apart by their rooms and their lengths
pub same_name : (x y : List ℕ) → Decides (pointwise nat_eq (roomed x) (roomed y) && nat_eq (length x) (length y)) (x ≡ y)
same_name x y = (λ h. one (both.0 h), λ e. both.1 (ap roomed e, ap length e))
  where
    both : Decides (pointwise nat_eq (roomed x) (roomed y) && nat_eq (length x) (length y)) ((roomed x ≡ roomed y) × (length x ≡ length y))
    both = Decides-and _ _ (slice_eq-Decides Decides-eqb (roomed x) (roomed y) _ refl) (Decides-eqb (length x) (length y))

    one : (roomed x ≡ roomed y) × (length x ≡ length y) → x ≡ y
    one h = sym (take-append_seam x _) ∙ (λ i. take (h.1 i) (h.0 i)) ∙ take-append_seam y _

module _ (eq : List ℕ → List ℕ → Bool) (decides : (x y : List ℕ) → Decides (eq x y) (x ≡ y)) where
  pub found_known : (names : List (List ℕ)) (name : List ℕ) (n : ℕ) → position (eq name) names ≡ Some n → IsKnown names name n
  found_known names name n h = let p = position-Some (eq name) names n [] h in record {
    inside = p.0;
    here = sym ((decides name (slice_index_or names n [])).0 p.1);
    before = λ k lt e. not_from_Decides _ (decides name (slice_index_or names k [])) (p.2 k lt) (sym e);
  }

  pub none_lacks : (names : List (List ℕ)) (name : List ℕ) → list_any (eq name) names ≡ false → Lacks names name
  none_lacks names name h k lt e =
      true≢false (sym (list_any_at (eq name) names k [] lt ((decides name (slice_index_or names k [])).1 (sym e))) ∙ h)

-- the place of a name that came is its number
pub gives_known : (t : Names) (name : List ℕ) (place : ℕ) → IsKnown t.sessions name place →
    (r : Result ℕ Memory) → IfOk r (λ n. n ≡ place) → IfOk r (λ n. GivesName t name n t)
gives_known t name place is (Ok n) e = inl (subst (IsKnown t.sessions name) (sym e) is, refl)
gives_known t name place is (Err _) e = tt
