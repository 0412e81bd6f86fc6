-- Rows of turns and passes, one place after the other.
use Rattle.std.proofs.Common.{◌≡◌, ◌≢◌, ℕ, zero, suc, ◌+◌, ◌<◌, ◌≤◌, ◌⊎◌, List, [], ◌∷◌, ◌++◌, length, set, get_or, Some, slice_get, refl, sym, ap, ◌∙◌, subst, inl, inr, ⊎_elim, length-append, length-set, arith}
use Rattle.std.proofs.lemmas.Option.{slice_get-get_or, slice_get_within}
use mathlib.Core.Logic.{dite}
use native.Mathlib.Decide.{ℕ_discrete}
use Rattle.std.specs.declared.snapshot.Snapshot.{Snapshot}
use Rattle.qs_turn.specs.declared.view.View.{View}
use Rattle.qs_turn.specs.Names.{Name, Known}
use Rattle.qs_turn.specs.Words.{IsPassOf, Joined}
use Rattle.qs_turn_rows.specs.Rows.{Pairs, Triples, Each, IsFirst, Forked, JoinedAt}

module _ {A : Type 0} where
  -- a member that is read by its place
  pub read : (xs : List A) (i : ℕ) (x : A) → i < length xs → x ≡ get_or xs i x → slice_get xs i ≡ Some x
  read xs i x h is = slice_get-get_or xs i x h ∙ ap Some (sym is)

  pub same_at : (xs : List A) (i : ℕ) (x y : A) → slice_get xs i ≡ Some x → slice_get xs i ≡ Some y → x ≡ y
  same_at xs i x y e d = let s : Some x ≡ Some y = sym e ∙ d in cc

  pub get_here : (xs : List A) (i : ℕ) (x : A) → i < length xs → slice_get (set xs i x) i ≡ Some x
  get_here [] i x h = absurd (omega arith)
  get_here (y ∷ ys) zero x h = refl
  get_here (y ∷ ys) (suc i) x h = get_here ys i x (omega arith)

  pub get_else : (xs : List A) (i j : ℕ) (x : A) → j ≢ i → slice_get (set xs i x) j ≡ slice_get xs j
  get_else [] i j x ne = refl
  get_else (y ∷ ys) zero zero x ne = absurd (ne refl)
  get_else (y ∷ ys) zero (suc j) x ne = refl
  get_else (y ∷ ys) (suc i) zero x ne = refl
  get_else (y ∷ ys) (suc i) (suc j) x ne = get_else ys i j x (λ e. ne (ap suc e))

  -- the last member, and the ones before it
  pub get_mid : (xs : List A) (x : A) (ys : List A) → slice_get (xs ++ x ∷ ys) (length xs) ≡ Some x
  get_mid [] x ys = refl
  get_mid (y ∷ xs) x ys = get_mid xs x ys

  pub get_front : (xs : List A) (i : ℕ) (y : A) (ys : List A) → slice_get xs i ≡ Some y → slice_get (xs ++ ys) i ≡ Some y
  get_front [] i y ys e = absurd (cc)
  get_front (x ∷ xs) zero y ys e = e
  get_front (x ∷ xs) (suc i) y ys e = get_front xs i y ys e

  -- a member behind the front is the one that was added, or there is none
  pub get_snoc : (xs : List A) (x : A) (i : ℕ) (y : A) → slice_get (xs ++ x ∷ []) i ≡ Some y → (slice_get xs i ≡ Some y) ⊎ ((i ≡ length xs) × (x ≡ y))
  get_snoc [] x zero y e = inr (refl, (let s : Some x ≡ Some y = e in cc))
  get_snoc [] x (suc i) y e = absurd (cc)
  get_snoc (z ∷ xs) x zero y e = inl e
  get_snoc (z ∷ xs) x (suc i) y e = ⊎_elim (λ (t : slice_get xs i ≡ Some y). inl t) (λ (t : (i ≡ length xs) × (x ≡ y)). inr (ap suc t.0, t.1)) (get_snoc xs x i y e)

module _ {A B : Type 0} {Rel : A → B → Type 0} where
  -- one member of the second row changed
  pub pairs_set : (xs : List A) (ys : List B) (i : ℕ) (y : B) → Pairs Rel xs ys → ((x : A) → slice_get xs i ≡ Some x → Rel x y) → Pairs Rel xs (set ys i y)
  pairs_set xs ys i y p new = record {
    long = p.long ∙ sym (length-set ys i y);
    each = λ j x z e d. dite (ℕ_discrete j i)
        (λ same. let inside : i < length ys = (let h = slice_get_within xs j x e in let l = p.long in omega arith) in
        let is : y ≡ z = same_at (set ys i y) j y z (ap (slice_get (set ys i y)) same ∙ get_here ys i y inside) d in
        subst (Rel x) is (new x (ap (slice_get xs) (sym same) ∙ e)))
        (λ ne. p.each j x z e (sym (get_else ys i j y ne) ∙ d));
  }

module _ {P O R : Type 0} where
  -- up to a place the passes were split
  pub record Splitting (ts : List (Name (Snapshot P))) (ks ns gs : List (Known (View P O R))) (i : ℕ) : Type 0 where
    pub turns : Pairs IsPassOf ts ns
    pub long : length ns ≡ length ks
    pub made : length gs ≡ i
    pub given : (j : ℕ) (t : Name (Snapshot P)) (g : Known (View P O R)) → slice_get ts j ≡ Some t → slice_get gs j ≡ Some g → IsPassOf t g
    pub done : (j : ℕ) (k n g : Known (View P O R)) → slice_get ks j ≡ Some k → slice_get ns j ≡ Some n → slice_get gs j ≡ Some g → Forked k n g
    pub rest : (j : ℕ) → i ≤ j → slice_get ns j ≡ slice_get ks j

  pub splitting_none : (ts : List (Name (Snapshot P))) (ks : List (Known (View P O R))) → Pairs IsPassOf ts ks → Splitting ts ks ks [] 0
  splitting_none ts ks p = record { turns = p; long = refl; made = refl; given = λ j t g e d. absurd (cc); done = λ j k n g e d f. absurd (cc); rest = λ j h. refl }

  pub splitting_more : (ts : List (Name (Snapshot P))) (ks ns gs : List (Known (View P O R))) (i : ℕ) (t : Name (Snapshot P)) (k n g : Known (View P O R)) → Splitting ts ks ns gs i
      → i < length ts → slice_get ts i ≡ Some t → slice_get ns i ≡ Some k → IsPassOf t n → IsPassOf t g → Forked k n g → Splitting ts ks (set ns i n) (gs ++ g ∷ []) (i + 1)
  splitting_more ts ks ns gs i t k n g s h at is mine theirs forked =
      let inside : i < length ns = (let l = s.turns.long in omega arith) in
      let was : slice_get ks i ≡ Some k = sym (s.rest i (omega arith)) ∙ is in record {
        turns = pairs_set ts ns i n s.turns (λ x e. subst (λ (y : Name (Snapshot P)). IsPassOf y n) (same_at ts i t x at e) mine);
        long = length-set ns i n ∙ s.long;
        made = omega (arith, length-append gs (g ∷ []), s.made);
        given = λ j x y e d. ⊎_elim
            (λ (old : slice_get gs j ≡ Some y). s.given j x y e old)
            (λ (new : (j ≡ length gs) × (g ≡ y)).
            let here : j ≡ i = new.0 ∙ s.made in
            subst (λ (z : Known (View P O R)). IsPassOf x z) new.1 (subst (λ (z : Name (Snapshot P)). IsPassOf z g) (same_at ts i t x at (ap (slice_get ts) (sym here) ∙ e)) theirs))
            (get_snoc gs g j y d);
        done = λ j a b c e d f. ⊎_elim
            (λ (old : slice_get gs j ≡ Some c).
            let below : j < length gs = slice_get_within gs j c old in
            s.done j a b c e (sym (get_else ns i j n (λ same. absurd (let m = s.made in omega arith))) ∙ d) old)
            (λ (new : (j ≡ length gs) × (g ≡ c)).
            let here : j ≡ i = new.0 ∙ s.made in
            let first : k ≡ a = same_at ks i k a was (ap (slice_get ks) (sym here) ∙ e) in
            let second : n ≡ b = same_at (set ns i n) i n b (get_here ns i n inside) (ap (slice_get (set ns i n)) (sym here) ∙ d) in
            subst (λ (z : Known (View P O R)). Forked z b c) first (subst (λ (z : Known (View P O R)). Forked k z c) second (subst (λ (z : Known (View P O R)). Forked k n z) new.1 forked)))
            (get_snoc gs g j c f);
        rest = λ j more. get_else ns i j n (λ same. absurd (omega arith)) ∙ s.rest j (omega arith);
      }

  pub split_each : (ts : List (Name (Snapshot P))) (ks ns gs : List (Known (View P O R))) (i : ℕ) → Splitting ts ks ns gs i → i ≡ length ts → Pairs IsPassOf ts gs × Triples Forked ks ns gs
  split_each ts ks ns gs i s all = (
    record { long = sym all ∙ sym s.made; each = s.given },
    record { long = sym s.long ∙ sym s.turns.long ∙ sym all ∙ sym s.made; second_long = sym s.turns.long ∙ sym all ∙ sym s.made; each = s.done },
  )

  -- from a place on the passes were joined
  pub record Joining (ts : List (Name (Snapshot P))) (ks os ns left : List (Known (View P O R))) : Type 0 where
    pub turns : Pairs IsPassOf ts ns
    pub first : Each IsFirst ns
    pub long : length ns ≡ length ks
    pub short : length left ≤ length os
    pub front : (j : ℕ) (o : Known (View P O R)) → slice_get left j ≡ Some o → slice_get os j ≡ Some o
    pub rest : (j : ℕ) → j < length left → slice_get ns j ≡ slice_get ks j
    pub done : (j : ℕ) (k o n : Known (View P O R)) → length left ≤ j → slice_get ks j ≡ Some k → slice_get os j ≡ Some o → slice_get ns j ≡ Some n → Joined k o n

  pub joining_none : (ts : List (Name (Snapshot P))) (ks os : List (Known (View P O R))) → Pairs IsPassOf ts ks → Each IsFirst ks → length os ≡ length ts → Joining ts ks os ks os
  joining_none ts ks os p first all = record {
    turns = p;
    first = first;
    long = refl;
    short = omega arith;
    front = λ j o e. e;
    rest = λ j h. refl;
    done = λ j k o n h e d f. absurd (let a = slice_get_within os j o d in omega arith);
  }

  pub joining_more : (ts : List (Name (Snapshot P))) (ks os ns left left' ns' : List (Known (View P O R))) (other : Known (View P O R)) → Joining ts ks os ns left → left ≡ left' ++ other ∷ []
      → Pairs IsPassOf ts ns' → JoinedAt (length left') ns other ns' → Joining ts ks os ns' left'
  joining_more ts ks os ns left left' ns' other s last turns at =
      let i = length left' in
      let one : length left ≡ i + 1 = ap length last ∙ length-append left' (other ∷ []) in
      let inside : i < length ns = slice_get_within ns i at.old at.was in
      let there : slice_get os i ≡ Some other = s.front i other (ap (λ l. slice_get l i) last ∙ get_mid left' other []) in
      let was : slice_get ks i ≡ Some at.old = sym (s.rest i (omega arith)) ∙ at.was in
      let here : slice_get ns' i ≡ Some at.new = ap (λ l. slice_get l i) at.now ∙ get_here ns i at.new inside in
      let apart : (j : ℕ) → j ≢ i → slice_get ns' j ≡ slice_get ns j = λ j ne. ap (λ l. slice_get l j) at.now ∙ get_else ns i j at.new ne in record {
        turns = turns;
        first = λ j x e. dite (ℕ_discrete j i)
            (λ same. let is : at.new ≡ x = same_at ns' i at.new x here (ap (slice_get ns') (sym same) ∙ e) in subst IsFirst is (at.joined.same_first ∙ s.first i at.old at.was))
            (λ ne. s.first j x (sym (apart j ne) ∙ e));
        long = ap length at.now ∙ length-set ns i at.new ∙ s.long;
        short = let h = s.short in omega arith;
        front = λ j o e. s.front j o (ap (λ l. slice_get l j) last ∙ get_front left' j o (other ∷ []) e);
        rest = λ j h. apart j (λ same. absurd (omega arith)) ∙ s.rest j (omega arith);
        done = λ j k o n h e d f. dite (ℕ_discrete j i)
            (λ same.
            let a : at.old ≡ k = same_at ks i at.old k was (ap (slice_get ks) (sym same) ∙ e) in
            let b : other ≡ o = same_at os i other o there (ap (slice_get os) (sym same) ∙ d) in
            let z : at.new ≡ n = same_at ns' i at.new n here (ap (slice_get ns') (sym same) ∙ f) in
            subst (λ (x : Known (View P O R)). Joined x o n) a (subst (λ (x : Known (View P O R)). Joined at.old x n) b (subst (λ (x : Known (View P O R)). Joined at.old other x) z at.joined)))
            (λ ne. s.done j k o n (omega arith) e d (sym (apart j ne) ∙ f));
      }

  pub join_each : (ts : List (Name (Snapshot P))) (ks os ns left : List (Known (View P O R))) → Joining ts ks os ns left → length left ≡ 0 → length os ≡ length ts → Triples Joined ks os ns
  join_each ts ks os ns left s none all = record {
    long = sym s.long;
    second_long = all ∙ s.turns.long;
    each = λ j k o n e d f. s.done j k o n (omega arith) e d f;
  }
