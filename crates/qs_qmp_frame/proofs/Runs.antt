-- What bytes lead to, step by step.
use Rattle.std.proofs.Common.{◌≡◌, ℕ, ◌<◌, true, false, ◌==◌, List, [], ◌∷◌, ◌++◌, length, refl, ap, sym, ◌∙◌, append_assoc, arith}
use Rattle.std.proofs.lemmas.List.Sums.{fold-append}
use Rattle.qs_qmp_frame.specs.declared.place.Place.{Place}
use Rattle.qs_qmp_frame.specs.Objects.{open_brace, is_blank, limit, ends, next}
use Rattle.qs_qmp_frame.specs.Phases.{Phase, Gap, Part, Whole, Wrong, Long, phase_after, begin, go_on, objects, run, whole_object}

-- the bytes lead from p to q, and these objects end within them
pub record Leads (p : Phase) (bytes : List ℕ) (q : Phase) (os : List (List ℕ)) : Type 0 where
  pub run : run p bytes ≡ q
  pub objects : objects p bytes ≡ os

pub run-append : (p : Phase) (a b : List ℕ) → run p (a ++ b) ≡ run (run p a) b
run-append p a b = fold-append phase_after p a b

pub objects-append : (p : Phase) (a b : List ℕ) → objects p (a ++ b) ≡ objects p a ++ objects (run p a) b
objects-append p [] b = refl
objects-append p (x ∷ a) b =
    ap (λ os. whole_object (phase_after p x) ++ os) (objects-append (phase_after p x) a b) ∙
    sym (append_assoc (whole_object (phase_after p x)) (objects (phase_after p x) a) (objects (run (phase_after p x) a) b))

pub leads-append : (p q r : Phase) (a b : List ℕ) (os more : List (List ℕ)) → Leads p a q os → Leads q b r more → Leads p (a ++ b) r (os ++ more)
leads-append p q r a b os more x y = record {
  run = run-append p a b ∙ ap (λ (z : Phase). run z b) x.run ∙ y.run;
  objects = objects-append p a b ∙ ap (λ zs. zs ++ objects (run p a) b) x.objects ∙ ap (λ (z : Phase). os ++ objects z b) x.run ∙ ap (λ zs. os ++ zs) y.objects;
}

pub leads-cons : (p q r : Phase) (b : ℕ) (bytes : List ℕ) (os : List (List ℕ)) → phase_after p b ≡ q → Leads q bytes r os → Leads p (b ∷ bytes) r (whole_object q ++ os)
leads-cons p q r b bytes os e x = record {
  run = ap (λ (z : Phase). run z bytes) e ∙ x.run;
  objects = ap (λ (z : Phase). whole_object z ++ objects z bytes) e ∙ ap (λ zs. whole_object q ++ zs) x.objects;
}

-- a refused stream stays as it is
pub wrong_stays : (b : ℕ) (bytes : List ℕ) → Leads (Wrong b) bytes (Wrong b) []
wrong_stays b [] = record { run = refl; objects = refl }
wrong_stays b (x ∷ bytes) = leads-cons (Wrong b) (Wrong b) (Wrong b) x bytes [] refl (wrong_stays b bytes)

pub long_stays : (bytes : List ℕ) → Leads Long bytes Long []
long_stays [] = record { run = refl; objects = refl }
long_stays (x ∷ bytes) = leads-cons Long Long Long x bytes [] refl (long_stays bytes)

-- an object is awaited
abbrev pub IsReady : Phase → Type 0
IsReady Gap = Unit {0}
IsReady (Whole object) = Unit {0}
IsReady other = ⊥

pub ready_begins : (p : Phase) (b : ℕ) → IsReady p → phase_after p b ≡ begin b
ready_begins Gap b is = refl
ready_begins (Whole object) b is = refl
ready_begins (Part place kept) b is = absurd is
ready_begins (Wrong x) b is = absurd is
ready_begins Long b is = absurd is

pub begin_blank : (b : ℕ) → is_blank b ≡ true → begin b ≡ Gap
begin_blank b is = rw is refl

pub begin_stray : (b : ℕ) → is_blank b ≡ false → (b == open_brace) ≡ false → begin b ≡ Wrong b
begin_stray b blank brace = rw blank (rw brace refl)

pub go_end : (place : Place) (kept : List ℕ) (b : ℕ) → ends place b ≡ true → go_on place kept b ≡ Whole kept
go_end place kept b is = rw is refl

pub not_full : (kept : List ℕ) → length kept < limit → (length kept == limit) ≡ false
not_full kept short = grind (arith, short)

pub full : (kept : List ℕ) → length kept ≡ limit → (length kept == limit) ≡ true
full kept long = grind (arith, long)

pub go_more : (place : Place) (kept : List ℕ) (b : ℕ) → ends place b ≡ false → length kept < limit → go_on place kept b ≡ Part (next place b) kept
go_more place kept b is short = rw is (rw (not_full kept short) refl)

pub go_long : (place : Place) (kept : List ℕ) (b : ℕ) → ends place b ≡ false → length kept ≡ limit → go_on place kept b ≡ Long
go_long place kept b is long = rw is (rw (full kept long) refl)
