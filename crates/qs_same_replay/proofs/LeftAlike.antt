-- Crashes at one place of two replays that found the same left the same, where they chose alike.
use Rattle.std.proofs.Common.{◌≡◌, ℕ, List, [], ◌∷◌, ◌++◌, sym, subst, ap, ◌∙◌}
use Rattle.std.specs.Prelude.{Option, Bool, IsTrue}
use Rattle.qs_bytes.specs.Geometry.{stripe_of}
use Rattle.qs_outside.specs.Blocks.{Seen}
use Rattle.qs_outside.specs.Crashes.{chosen, left_of}
use Rattle.qs_outside.specs.declared.crash.CrashChoice.{CrashChoice}
use Rattle.qs_model.specs.Acts.{Element, Crashed}
use Rattle.qs_model.specs.Steps.{happens}
use Rattle.qs_model.specs.Worlds.{World}
use Rattle.qs_world.specs.Crashing.{left_at}
use Rattle.qs_world.specs.Images.{stripe_at}
use Rattle.qs_world.specs.Stands.{Stands}
use Rattle.qs_world.specs.Values.{WorldValue, stripes_of}
use Rattle.qs_calls.specs.Calls.{Call, Happened, Rigged, PowerFailed, ExportMade, MakesStep, Walks}
use Rattle.qs_calls.proofs.Plays.{step_stands}
use Rattle.qs_same_replay.specs.Same.{AreCutAlike, IsCutAlike}

-- two crashes that chose alike left the same
abbrev pub IsLeftAlike : Call → Call → Type 0
IsLeftAlike (PowerFailed choice left) (PowerFailed other blocks) = other ≡ choice → blocks ≡ left
IsLeftAlike c d = Unit {0}

abbrev pub AreLeftAlike : List Call → List Call → Type 0
AreLeftAlike (c ∷ cs) (d ∷ ds) = IsLeftAlike c d × AreLeftAlike cs ds
AreLeftAlike cs ds = Unit {0}

-- of the first calls of both it holds too
pub left_front : (xs ys zs us : List Call) → AreLeftAlike (xs ++ ys) (zs ++ us) → AreLeftAlike xs zs
left_front [] ys zs us alike = tt
left_front (x ∷ xs) ys [] us alike = tt
left_front (x ∷ xs) ys (z ∷ zs) us alike = (alike.0, left_front xs ys zs us alike.1)

-- and of what follows the same calls
pub left_rest : (xs ys us : List Call) → AreLeftAlike (xs ++ ys) (xs ++ us) → AreLeftAlike ys us
left_rest [] ys us alike = alike
left_rest (x ∷ xs) ys us alike = left_rest xs ys us alike.1

flip_one : (c d : Call) → IsLeftAlike c d → IsLeftAlike d c
flip_one (PowerFailed choice left) (PowerFailed other blocks) alike = λ same. sym (alike (sym same))
flip_one c (Happened made outcome) alike = tt
flip_one c (Rigged stripe fail) alike = tt
flip_one c (ExportMade op place) alike = tt
flip_one (Happened made outcome) (PowerFailed other blocks) alike = tt
flip_one (Rigged stripe fail) (PowerFailed other blocks) alike = tt
flip_one (ExportMade op place) (PowerFailed other blocks) alike = tt

pub left_flip : (cs ds : List Call) → AreLeftAlike cs ds → AreLeftAlike ds cs
left_flip (c ∷ cs) (d ∷ ds) alike = (flip_one c d alike.0, left_flip cs ds alike.1)
left_flip [] (d ∷ ds) alike = tt
left_flip (c ∷ cs) [] alike = tt
left_flip [] [] alike = tt

-- one call each
one_left : {D : Type 0} (seen : D → Seen) (w v w1 v1 : WorldValue D) (m n : World) (c d : Call) (e f : Element) → Stands seen w m → Stands seen v n →
    IsTrue m.tells → IsTrue n.tells → MakesStep seen w c e w1 → MakesStep seen v d f v1 → IsCutAlike m e n f → IsLeftAlike c d
one_left {D} seen w v w1 v1 m n (PowerFailed choice left) (PowerFailed other blocks) e f stands at told told_too made also cut = λ same i b. block same b i
  where
    found : (b : ℕ) → n.image.past b ≡ m.image.past b
    found = subst (λ (x : Element). IsCutAlike m (Crashed left) n x) also.2 (subst (λ (x : Element). IsCutAlike m x n f) made.2 cut)

    past : (b : ℕ) → (stripe_at (stripes_of seen v) (stripe_of b)).disk.past b ≡ (stripe_at (stripes_of seen w) (stripe_of b)).disk.past b
    past b = sym (at.image.past told_too b) ∙ found b ∙ stands.image.past told b

    block : other ≡ choice → (b : ℕ) → blocks b ≡ left b
    block same b = ap (λ (g : ℕ → List ℕ). g b) also.1 ∙ ap (λ (p : List (List ℕ)). left_of p (chosen other b)) (past b)
        ∙ ap (λ (x : CrashChoice). left_at (stripes_of seen w) x b) same ∙ sym (ap (λ (g : ℕ → List ℕ). g b) made.1)
one_left seen w v w1 v1 m n c d e f stands at told told_too made also cut = tt

still : (A : ℕ) (m : World) (e : Element) → IsTrue m.tells → IsTrue (happens A m e).tells
still A m (Crashed left) told = told
still A m e told = told

-- the calls of two replays
pub left_alike : {D : Type 0} (seen : D → Seen) (A : ℕ) (w v w1 v1 : WorldValue D) (m n : World) (cs ds : List Call) (es fs : List Element)
    (fulls others : List (ℕ → Option Bool)) → w.shape.align ≡ A → v.shape.align ≡ A → Stands seen w m → Stands seen v n → IsTrue m.tells → IsTrue n.tells →
    Walks seen w cs es fulls w1 → Walks seen v ds fs others v1 → AreCutAlike A m es n fs → AreLeftAlike cs ds
left_alike seen A w v w1 v1 m n (c ∷ cs) (d ∷ ds) (e ∷ es) (f ∷ fs) (full ∷ fulls) (other ∷ others) align align_too stands at told told_too walks also cut =
    let (is, mid, (made, on)) = walks in
    let (is_too, middle, (made_too, on_too)) = also in
    let (may, stands_on, align_on) = step_stands seen A w c e mid m align stands made in
    let (may_too, at_on, align_more) = step_stands seen A v d f middle n align_too at made_too in (
      one_left seen w v mid middle m n c d e f stands at told told_too made made_too cut.0,
      left_alike seen A mid middle w1 v1 (happens A m e) (happens A n f) cs ds es fs fulls others align_on align_more stands_on at_on
          (still A m e told) (still A n f told_too) on on_too cut.1,
    )
left_alike seen A w v w1 v1 m n [] ds es fs fulls others align align_too stands at told told_too walks also cut = tt
left_alike seen A w v w1 v1 m n (c ∷ cs) [] es fs fulls others align align_too stands at told told_too walks also cut = tt
left_alike seen A w v w1 v1 m n (c ∷ cs) (d ∷ ds) [] fs fulls others align align_too stands at told told_too walks also cut = absurd walks
left_alike seen A w v w1 v1 m n (c ∷ cs) (d ∷ ds) (e ∷ es) fs [] others align align_too stands at told told_too walks also cut = absurd walks
left_alike seen A w v w1 v1 m n (c ∷ cs) (d ∷ ds) (e ∷ es) [] fulls others align align_too stands at told told_too walks also cut = absurd also
left_alike seen A w v w1 v1 m n (c ∷ cs) (d ∷ ds) (e ∷ es) (f ∷ fs) fulls [] align align_too stands at told told_too walks also cut = absurd also
