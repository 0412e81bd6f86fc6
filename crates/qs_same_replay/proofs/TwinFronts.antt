-- Of two replays of one script neither goes further than the other, and both end alike.
use Rattle.std.proofs.Common.{◌≡◌, ◌≢◌, ◌<◌, ◌≤◌, ◌⊎◌, ℕ, inl, inr, List, [], ◌∷◌, ◌++◌, length, refl, sym, subst, ap, ◌∙◌, arith, length-append, Bool, true, false, ◌&&◌, true≢false}
use Rattle.std.specs.Prelude.{Option}
use Rattle.qs_status.specs.declared.status.Status.{Status}
use Rattle.qs_status.specs.declared.status.Status.TheVariants as status
use Rattle.qs_outside.specs.Blocks.{Seen}
use Rattle.qs_determined.specs.Determined.{Alike}
use Rattle.qs_script.proofs.OneLine.{one_line}
use Rattle.qs_model.specs.Worlds.{World}
use Rattle.qs_world.specs.Stands.{Stands}
use Rattle.qs_world.specs.Values.{WorldValue}
use Rattle.qs_calls.specs.Calls.{Call}
use Rattle.qs_replay_lines.specs.Effects.{UsesAgain}
use Rattle.qs_replay.specs.Readings.{IsText}
use Rattle.qs_same_replay.specs.Same.{IsSmooth}
use Rattle.qs_replay.specs.Scripts.{DoesText, EndsScript, IsBad, IsNextLine, IsUntimely, ReachesLine, spelled_lines}
use Rattle.qs_replay_lines.specs.Tables.{Names}
use Rattle.qs_replay.proofs.Reaching.{Splits, whole_of}
use Rattle.qs_replay.proofs.Replaying.{spelled_more}
use Rattle.qs_same_replay.proofs.TwinEnds.{bad_never, untimely_never}
use Rattle.qs_same_replay.proofs.Twins.{Calmly}

-- what stands behind the same front is the same
next_one : (texts : List (List ℕ)) (a b : List ℕ) (later bs : List (List ℕ)) → texts ++ a ∷ later ≡ texts ++ b ∷ bs → a ≡ b
next_one [] a b later bs e = cc
next_one (t ∷ texts) a b later bs e = next_one texts a b later bs (cc)

longer_never : (texts : List (List ℕ)) (a : List ℕ) (later : List (List ℕ)) → texts ≡ texts ++ a ∷ later → ⊥
longer_never texts a later e = omega (arith, ap length e, length-append texts (a ∷ later))

-- of two fronts of the same lines one is a front of the other
pub fronts : (xs ys later bs : List (List ℕ)) → xs ++ later ≡ ys ++ bs →
    ((more : List (List ℕ)) × (ys ≡ xs ++ more)) ⊎ ((more : List (List ℕ)) × (xs ≡ ys ++ more))
fronts [] ys later bs e = inl (ys, refl)
fronts (x ∷ xs) [] later bs e = inr (x ∷ xs, refl)
fronts (x ∷ xs) (y ∷ ys) later bs e = elim (fronts xs ys later bs (cc)) [
  | inl m ↦ inl (m.0, ap (λ (b : List ℕ). b ∷ ys) (sym head) ∙ ap (λ (bs : List (List ℕ)). x ∷ bs) m.1)
  | inr m ↦ inr (m.0, ap (λ (b : List ℕ). b ∷ xs) head ∙ ap (λ (bs : List (List ℕ)). y ∷ bs) m.1)
]
  where
    head : x ≡ y
    head = cc

-- how a replay ended that nothing outside disturbed
pub record Ended {D : Type 0} (script : List ℕ) (lines : List (List ℕ)) (budget : ℕ) (texts : List (List ℕ)) (w : WorldValue D) (t : Names) (result : Status) : Type 0 where
  pub smooth : IsSmooth result
  pub few : length texts ≤ budget
  pub reach : ReachesLine result budget lines texts w t
  pub cut : List Call
  pub taken : List ℕ
  pub left : Option (List ℕ)
  pub waiting : List ℕ
  pub split : Splits script taken left waiting
  pub ends : EndsScript result budget texts taken cut w t left waiting

-- a script ends in one of four ways
abbrev pub is_end : Status → Bool
is_end status.Done = true
is_end (status.BadLine n) = true
is_end (status.NotNext n) = true
is_end status.Spent = true
is_end other = false

end_is : {D : Type 0} (result : Status) (script : List ℕ) (lines : List (List ℕ)) (budget : ℕ) (texts : List (List ℕ)) (w : WorldValue D) (t : Names) →
    Ended script lines budget texts w t result → is_end result ≡ true
end_is status.Done script lines budget texts w t ended = refl
end_is (status.BadLine n) script lines budget texts w t ended = refl
end_is (status.NotNext n) script lines budget texts w t ended = refl
end_is status.Spent script lines budget texts w t ended = refl
end_is status.Memory script lines budget texts w t ended = absurd ended.smooth
end_is status.ReadFault script lines budget texts w t ended = absurd ended.smooth
end_is status.WriteFault script lines budget texts w t ended = absurd ended.smooth
end_is _ script lines budget texts w t ended = absurd ended.ends

module _ {D : Type 0} (seen : D → Seen) (script : List ℕ) (lines : List (List ℕ)) (budget : ℕ) where
  -- a replay that ended here, and one that did the next line
  pub further_never : (A : ℕ) (w w' v' : WorldValue D) (m m' n' : World) (t t1 : Names) (texts : List (List ℕ)) (x : List ℕ) (more : List (List ℕ)) (calls : List Call)
      (printed : List ℕ) (result : Status) → Stands seen w m → Alike m m' → IsText x → DoesText seen w' t x calls printed v' t1 → Calmly A m' calls n' →
      lines ≡ texts ++ x ∷ more → length texts < budget → Ended script lines budget texts w t result → ⊥
  further_never A w w' v' m m' n' t t1 texts x more calls printed status.Done stands alike is_text does calm is few ended = longer_never texts x more (ended.reach ∙ is)
  further_never A w w' v' m m' n' t t1 texts x more calls printed (status.BadLine n) stands alike is_text does calm is few ended =
      let (line, rest, (at, bad)) = ended.reach.1 in
      bad_never seen w' v' t t1 x calls printed is_text does (subst (IsBad t) (next_one texts line x rest more (sym at ∙ is)) bad)
  further_never A w w' v' m m' n' t t1 texts x more calls printed (status.NotNext n) stands alike is_text does calm is few ended =
      let (line, rest, (at, bad)) = ended.reach.1 in
      untimely_never seen A w w' v' m m' n' t t1 x calls printed stands alike does calm
      (subst (λ (l : List ℕ). IsUntimely w t l) (next_one texts line x rest more (sym at ∙ is)) bad.1)
  further_never A w w' v' m m' n' t t1 texts x more calls printed status.Spent stands alike is_text does calm is few ended = omega (arith, ended.reach.0, few)
  further_never A w w' v' m m' n' t t1 texts x more calls printed result stands alike is_text does calm is few ended =
      true≢false (sym (end_is result script lines budget texts w t ended))

  -- a script that is done isn't spent
  done_never : (texts : List (List ℕ)) (v v' : WorldValue D) (t : Names) → Ended script lines budget texts v t status.Done → Ended script lines budget texts v' t status.Spent → ⊥
  done_never texts v v' t done spent = go done.ends.0
    where
      whole : script ≡ done.taken
      whole = whole_of script done.taken done.left done.waiting done.split done.ends.1

      go : (done.taken ≡ spelled_lines texts) ⊎ ((front : List (List ℕ)) × (text : List ℕ) × ((texts ≡ front ++ text ∷ []) × (text ≢ []) × (done.taken ≡ spelled_lines front ++ text))) → ⊥
      go (inl is) = omega (arith, done.ends.3 is, spent.ends.0)
      go (inr bare) =
          let (front, text, (is, filled, at)) = bare in
          let long : length done.taken ≡ length (spelled_lines front ++ text) = ap length at in
          let spelled_is : spelled_lines texts ≡ spelled_lines front ++ (text ++ 10 ∷ []) = ap spelled_lines is ∙ spelled_more front text in
          let same : length done.taken ≡ length (spelled_lines texts ++ spent.split.more) =
          ap length (sym whole ∙ spent.split.is ∙ ap (λ (l : List ℕ). l ++ spent.split.more) spent.ends.1) in
          omega (
            arith,
            long,
            same,
            ap length spelled_is,
            length-append (spelled_lines front) text,
            length-append (spelled_lines texts) spent.split.more,
            length-append (spelled_lines front) (text ++ 10 ∷ []),
            length-append text (10 ∷ []),
          )

  -- a line isn't bad and untimely
  clash : (w : WorldValue D) (t : Names) (texts : List (List ℕ)) → IsNextLine lines texts (IsBad t) → IsNextLine lines texts (λ line. IsText line × IsUntimely w t line) → ⊥
  clash w t texts (x, xs, (is, bad)) (y, ys, (at, (is_text, (l, (reads, once, late))))) = go (subst (IsBad t) (next_one texts x y xs ys (sym is ∙ at)) bad)
    where
      go : IsBad t y → ⊥
      go (inl long) = omega (arith, long, is_text.short)
      go (inr (inl none)) = none l reads
      go (inr (inr (k, (reads_too, again)))) = once (subst (UsesAgain t) (one_line y k l reads_too reads) again)

  -- both end alike
  pub ends_one : (texts : List (List ℕ)) (v v' : WorldValue D) (t : Names) (result result' : Status) → Ended script lines budget texts v t result →
      Ended script lines budget texts v' t result' → result' ≡ result
  ends_one texts v v' t status.Done status.Done a b = refl
  ends_one texts v v' t status.Done (status.BadLine n) a b = absurd (longer_never texts b.reach.1.0 b.reach.1.1 (a.reach ∙ b.reach.1.2.0))
  ends_one texts v v' t status.Done (status.NotNext n) a b = absurd (longer_never texts b.reach.1.0 b.reach.1.1 (a.reach ∙ b.reach.1.2.0))
  ends_one texts v v' t status.Done status.Spent a b = absurd (done_never texts v v' t a b)
  ends_one texts v v' t (status.BadLine n) status.Done a b = absurd (longer_never texts a.reach.1.0 a.reach.1.1 (b.reach ∙ a.reach.1.2.0))
  ends_one texts v v' t (status.BadLine n) (status.BadLine k) a b = ap status.BadLine (b.reach.0 ∙ sym a.reach.0)
  ends_one texts v v' t (status.BadLine n) (status.NotNext k) a b = absurd (clash v' t texts a.reach.1 b.reach.1)
  ends_one texts v v' t (status.BadLine n) status.Spent a b = absurd (omega (arith, a.ends.2, a.ends.0, b.reach.0))
  ends_one texts v v' t (status.NotNext n) status.Done a b = absurd (longer_never texts a.reach.1.0 a.reach.1.1 (b.reach ∙ a.reach.1.2.0))
  ends_one texts v v' t (status.NotNext n) (status.BadLine k) a b = absurd (clash v t texts b.reach.1 a.reach.1)
  ends_one texts v v' t (status.NotNext n) (status.NotNext k) a b = ap status.NotNext (b.reach.0 ∙ sym a.reach.0)
  ends_one texts v v' t (status.NotNext n) status.Spent a b = absurd (omega (arith, a.ends.2, a.ends.0, b.reach.0))
  ends_one texts v v' t status.Spent status.Done a b = absurd (done_never texts v' v t b a)
  ends_one texts v v' t status.Spent (status.BadLine k) a b = absurd (omega (arith, b.ends.2, b.ends.0, a.reach.0))
  ends_one texts v v' t status.Spent (status.NotNext k) a b = absurd (omega (arith, b.ends.2, b.ends.0, a.reach.0))
  ends_one texts v v' t status.Spent status.Spent a b = refl
  ends_one texts v v' t result result' a b =
      absurd (true≢false (sym (both (is_end result) (is_end result') (end_is result script lines budget texts v t a) (end_is result' script lines budget texts v' t b))))
    where
      both : (a b : Bool) → a ≡ true → b ≡ true → (a && b) ≡ true
      both a b p q = ap (λ (x : Bool). x && b) p ∙ q
