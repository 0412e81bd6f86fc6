-- A row of turns that is closed from its end on.
use Rattle.std.proofs.Common.{◌≡◌, ℕ, zero, suc, ◌+◌, ◌<◌, ◌≤◌, List, [], ◌∷◌, ◌++◌, length, reverse, Some, slice_get, refl, sym, ap, ◌∙◌, subst, ⊎_elim, append_assoc, append-nil, length-append, arith}
use Rattle.std.proofs.lemmas.List.{reverse-append}
use Rattle.std.proofs.lemmas.Option.{slice_get_within}
use Rattle.std.specs.declared.snapshot.Snapshot.{Snapshot}
use Rattle.qs_turn.specs.declared.view.View.{View}
use Rattle.qs_turn.specs.Names.{Name, Known}
use Rattle.qs_part.specs.Histories.{Call, StandsFor}
use Rattle.qs_turn.specs.Orders.{Merges}
use Rattle.qs_turn.specs.Words.{opening, seen, own, IsPassOf, Joined}
use Rattle.qs_turn_rows.specs.Rows.{Pairs, Triples, Each, IsFirst, IsOther, IsAlone, Closed, Forked}
use Rattle.qs_turn_rows.proofs.Places.{get_mid, get_snoc}

module _ {A B C : Type 0} {Rel : A → B → C → Type 0} where
  triples_none : Triples Rel [] [] []
  triples_none = record { long = refl; second_long = refl; each = λ i x y z e d f. absurd (cc) }

  triples_more : (x : A) (y : B) (z : C) (xs : List A) (ys : List B) (zs : List C) → Rel x y z → Triples Rel xs ys zs → Triples Rel (x ∷ xs) (y ∷ ys) (z ∷ zs)
  triples_more x y z xs ys zs one t = record { long = ap suc t.long; second_long = ap suc t.second_long; each = at }
    where
      at : (i : ℕ) (a : A) (b : B) (c : C) → slice_get (x ∷ xs) i ≡ Some a → slice_get (y ∷ ys) i ≡ Some b → slice_get (z ∷ zs) i ≡ Some c → Rel a b c
      at zero a b c e d f =
          let p : x ≡ a = (let s : Some x ≡ Some a = e in cc) in
          let q : y ≡ b = (let s : Some y ≡ Some b = d in cc) in
          let r : z ≡ c = (let s : Some z ≡ Some c = f in cc) in
          subst (λ (u : A). Rel u b c) p (subst (λ (u : B). Rel x u c) q (subst (λ (u : C). Rel x y u) r one))
      at (suc i) a b c e d f = t.each i a b c e d f

empty : {A : Type 0} (l : List A) → length l ≡ 0 → l ≡ []
empty [] h = refl
empty (x ∷ xs) h = absurd (omega arith)

module _ {P O R : Type 0} (may : P → O → R → P → Type 0) where
  -- the turns and passes that are left, and the parts of those that were closed, the last first
  pub record Closing (ts0 : List (Name (Snapshot P))) (ks0 : List (Known (View P O R))) (ts : List (Name (Snapshot P))) (ks : List (Known (View P O R))) (ps : List P) (capacity : ℕ) : Type 0 where
    pub shut : List (Name (Snapshot P))
    pub spent : List (Known (View P O R))
    pub turns : ts0 ≡ ts ++ shut
    pub passes : ks0 ≡ ks ++ spent
    pub left : length ts ≡ length ks
    pub done : Triples (Closed may) shut spent (reverse ps)
    pub room : length ts + length ps ≤ capacity

  pub closing_none : (ts : List (Name (Snapshot P))) (ks : List (Known (View P O R))) (ps : List P) (capacity : ℕ) → length ts ≡ length ks → ps ≡ [] → length ts ≤ capacity → Closing ts ks ts ks ps capacity
  closing_none ts ks ps capacity all none room = record {
    shut = [];
    spent = [];
    turns = sym (append-nil ts);
    passes = sym (append-nil ks);
    left = all;
    done = subst (λ (l : List P). Triples (Closed may) [] [] (reverse l)) (sym none) triples_none;
    room = (let h = ap length none in omega arith);
  }

  -- the turn and the pass that come off belong together, and the pass is alone
  pub closing_pair : (ts0 ts ts' : List (Name (Snapshot P))) (ks0 ks ks' : List (Known (View P O R))) (ps : List P) (capacity : ℕ) (t : Name (Snapshot P)) (k : Known (View P O R)) → Closing ts0 ks0 ts ks ps capacity
      → ts ≡ ts' ++ t ∷ [] → ks ≡ ks' ++ k ∷ [] → Pairs IsPassOf ts0 ks0 → Each IsAlone ks0 → IsPassOf t k × IsAlone k
  closing_pair ts0 ts ts' ks0 ks ks' ps capacity t k s last last' pairs alone =
      let same : length ts' ≡ length ks' = (let a = ap length last in let b = ap length last' in let l = s.left in omega (arith, length-append ts' (t ∷ []), length-append ks' (k ∷ []))) in
      let at : slice_get ts0 (length ts') ≡ Some t =
      ap (λ (l : List (Name (Snapshot P))). slice_get l (length ts')) (s.turns ∙ ap (λ l. l ++ s.shut) last ∙ append_assoc ts' (t ∷ []) s.shut) ∙ get_mid ts' t s.shut in
      let there : slice_get ks0 (length ts') ≡ Some k =
      ap (slice_get ks0) same ∙ ap (λ (l : List (Known (View P O R))). slice_get l (length ks')) (s.passes ∙ ap (λ l. l ++ s.spent) last' ∙ append_assoc ks' (k ∷ []) s.spent) ∙ get_mid ks' k s.spent in
      (pairs.each (length ts') t k at there, alone (length ts') k there)

  pub closing_more : (ts0 ts ts' : List (Name (Snapshot P))) (ks0 ks ks' : List (Known (View P O R))) (ps ps' : List P) (capacity : ℕ) (t : Name (Snapshot P)) (k : Known (View P O R)) (p : P) → Closing ts0 ks0 ts ks ps capacity
      → ts ≡ ts' ++ t ∷ [] → ks ≡ ks' ++ k ∷ [] → ps' ≡ ps ++ p ∷ [] → Closed may t k p → Closing ts0 ks0 ts' ks' ps' capacity
  closing_more ts0 ts ts' ks0 ks ks' ps ps' capacity t k p s last last' more closed = record {
    shut = t ∷ s.shut;
    spent = k ∷ s.spent;
    turns = s.turns ∙ ap (λ l. l ++ s.shut) last ∙ append_assoc ts' (t ∷ []) s.shut;
    passes = s.passes ∙ ap (λ l. l ++ s.spent) last' ∙ append_assoc ks' (k ∷ []) s.spent;
    left = (let a = ap length last in let b = ap length last' in let l = s.left in omega (arith, length-append ts' (t ∷ []), length-append ks' (k ∷ [])));
    done = subst (λ (l : List P). Triples (Closed may) (t ∷ s.shut) (k ∷ s.spent) l) (sym (ap reverse more ∙ reverse-append ps (p ∷ []))) (triples_more t k p s.shut s.spent (reverse ps) closed s.done);
    room = (let a = ap length last in let b = ap length more in let r = s.room in omega (arith, length-append ts' (t ∷ []), length-append ps (p ∷ [])));
  }

  -- at the end
  pub closing_all : (ts0 ts : List (Name (Snapshot P))) (ks0 ks : List (Known (View P O R))) (ps : List P) (capacity : ℕ) → Closing ts0 ks0 ts ks ps capacity → length ts ≡ 0 → Triples (Closed may) ts0 ks0 (reverse ps)
  closing_all ts0 ts ks0 ks ps capacity s none =
      let bare : ks ≡ [] = empty ks (let l = s.left in omega arith) in
      subst (λ (l : List (Name (Snapshot P))). Triples (Closed may) l ks0 (reverse ps)) (sym (s.turns ∙ ap (λ l. l ++ s.shut) (empty ts none)))
      (subst (λ (l : List (Known (View P O R))). Triples (Closed may) s.shut l (reverse ps)) (sym (s.passes ∙ ap (λ l. l ++ s.spent) bare)) s.done)

-- one more member of two rows
pub pairs_snoc : {A B : Type 0} (Rel : A → B → Type 0) (xs : List A) (ys : List B) (x : A) (y : B) → Pairs Rel xs ys → Rel x y → Pairs Rel (xs ++ x ∷ []) (ys ++ y ∷ [])
pairs_snoc Rel xs ys x y p one = record {
  long = omega (arith, length-append xs (x ∷ []), length-append ys (y ∷ []), p.long);
  each = λ i a b e d. ⊎_elim
      (λ (old : slice_get xs i ≡ Some a). ⊎_elim
      (λ (also : slice_get ys i ≡ Some b). p.each i a b old also)
      (λ (new : (i ≡ length ys) × (y ≡ b)). absurd (let h = slice_get_within xs i a old in let l = p.long in let n = new.0 in omega arith))
      (get_snoc ys y i b d))
      (λ (new : (i ≡ length xs) × (x ≡ a)). ⊎_elim
      (λ (also : slice_get ys i ≡ Some b). absurd (let h = slice_get_within ys i b also in let l = p.long in let n = new.0 in omega arith))
      (λ (last : (i ≡ length ys) × (y ≡ b)). subst (λ u. Rel u b) new.1 (subst (λ u. Rel x u) last.1 one))
      (get_snoc ys y i b d))
      (get_snoc xs x i a e);
}

pub each_snoc : {A : Type 0} (Such : A → Type 0) (xs : List A) (x : A) → Each Such xs → Such x → Each Such (xs ++ x ∷ [])
each_snoc Such xs x all one i y e = ⊎_elim (λ (old : slice_get xs i ≡ Some y). all i y old) (λ (new : (i ≡ length xs) × (x ≡ y)). subst Such new.1 one) (get_snoc xs x i y e)

-- the member at a place
member : {A : Type 0} (xs : List A) (i : ℕ) → i < length xs → (x : A) × (slice_get xs i ≡ Some x)
member [] i h = absurd (omega arith)
member (x ∷ xs) zero h = (x, refl)
member (x ∷ xs) (suc i) h = member xs i (omega arith)

-- what is put together from a list and from nothing is the list
merges_left : {A : Type 0} (xs zs : List A) → Merges xs [] zs → zs ≡ xs
merges_left xs [] m = sym m.0
merges_left {A} xs (z ∷ zs) m = ⊎_elim
    (λ (t : (rest : List A) × (xs ≡ z ∷ rest) × Merges rest [] zs). ap (λ l. z ∷ l) (merges_left t.0 zs t.2) ∙ sym t.1)
    (λ (t : (rest : List A) × ([] ≡ z ∷ rest) × Merges xs rest zs). absurd (let e : [] ≡ z ∷ t.0 = t.1 in cc))
    m

module _ {P O R : Type 0} where
  -- after a split the first passes are first still, and the others aren't
  pub forked_first : (ks ns gs : List (Known (View P O R))) → Triples Forked ks ns gs → Each IsFirst ns × Each IsOther gs
  forked_first ks ns gs forked = (
    λ i n e. let inside = slice_get_within ns i n e in let k = member ks i (omega (arith, forked.long, forked.second_long)) in let g = member gs i (omega (arith, forked.second_long)) in (forked.each i k.0 n g.0 k.1 e g.1).first,
    λ i g e. let inside = slice_get_within gs i g e in let k = member ks i (omega (arith, forked.long)) in let n = member ns i (omega (arith, forked.second_long)) in (forked.each i k.0 n.0 g k.1 n.1 e).other,
  )

  -- passes that were split off and joined back leave the first ones alone
  pub alone_again : (ks ns gs js : List (Known (View P O R))) → Triples Forked ks ns gs → Triples Joined ns gs js → Each IsAlone ks → Each IsAlone js
  alone_again ks ns gs js forked joined alone i j e =
      let inside = slice_get_within js i j e in
      let k = member ks i (omega (arith, forked.long, forked.second_long, joined.long, joined.second_long)) in
      let n = member ns i (omega (arith, joined.long)) in
      let g = member gs i (omega (arith, joined.second_long)) in
      let f = forked.each i k.0 n.0 g.0 k.1 n.1 g.1 in
      let h = joined.each i n.0 g.0 j n.1 g.1 e in
      let a = alone i k.0 k.1 in
      (h.same_first ∙ f.first, (let x = f.out_rises in let y = h.out_falls in let z = a.1 in omega arith))

  -- a pass that was split off and joined back, without a call between, leaves the first as it was
  rejoined_seen : (k n g j : Known (View P O R)) → Forked k n g → Joined n g j → seen j ≡ seen k
  rejoined_seen k n g j f h = ⊎_elim (λ (x : seen j ≡ seen n). x ∙ f.seen_stays) (λ (x : seen j ≡ seen g). x ∙ f.seen_given) h.longer

  rejoined_own : (k n g j : Known (View P O R)) → Forked k n g → Joined n g j → own j ≡ own k
  rejoined_own k n g j f h = merges_left (own n) (own j) (subst (λ (ys : List (Call O R)). Merges (own n) ys (own j)) f.own_none h.both) ∙ f.own_stays

  -- so the parts of turns that are closed then stand for what the passes had seen before
  pub closed_as_before : (may : P → O → R → P → Type 0) (ts : List (Name (Snapshot P))) (ks ns gs js : List (Known (View P O R))) (ps : List P) → Triples Forked ks ns gs → Triples Joined ns gs js
      → Triples (Closed may) ts js ps → Triples (Closed may) ts ks ps
  closed_as_before may ts ks ns gs js ps forked joined closed = record {
    long = closed.long;
    second_long = omega (arith, forked.long, forked.second_long, joined.long, joined.second_long, closed.second_long);
    each = λ i t k p e d f.
        let inside = slice_get_within ks i k d in
        let n = member ns i (omega (arith, forked.long, forked.second_long)) in
        let g = member gs i (omega (arith, forked.long)) in
        let j = member js i (omega (arith, forked.long, joined.second_long)) in
        let fork = forked.each i k n.0 g.0 d n.1 g.1 in
        let join = joined.each i n.0 g.0 j.0 n.1 g.1 j.1 in
        let shut = closed.each i t j.0 p e j.1 f in
        let saw = rejoined_seen k n.0 g.0 j.0 fork join in record {
          stands = subst (λ (cs : List (Call O R)). StandsFor may (opening t) cs p) saw shut.stands;
          whole = sym (rejoined_own k n.0 g.0 j.0 fork join) ∙ shut.whole ∙ saw;
        };
  }

  pub opened_pairs : (ts ts' : List (Name (Snapshot P))) (ks ks' : List (Known (View P O R))) (t : Name (Snapshot P)) (k : Known (View P O R)) → ts' ≡ ts ++ t ∷ [] → ks' ≡ ks ++ k ∷ []
      → Pairs IsPassOf ts ks → IsPassOf t k → Pairs IsPassOf ts' ks'
  opened_pairs ts ts' ks ks' t k one two pairs of =
      subst (λ (l : List (Name (Snapshot P))). Pairs IsPassOf l ks') (sym one) (subst (λ (l : List (Known (View P O R))). Pairs IsPassOf (ts ++ t ∷ []) l) (sym two) (pairs_snoc IsPassOf ts ks t k pairs of))

  pub opened_alone : (ks ks' : List (Known (View P O R))) (k : Known (View P O R)) → ks' ≡ ks ++ k ∷ [] → Each IsAlone ks → IsAlone k → Each IsAlone ks'
  opened_alone ks ks' k two all one = subst (λ (l : List (Known (View P O R))). Each IsAlone l) (sym two) (each_snoc IsAlone ks k all one)
