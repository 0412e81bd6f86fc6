-- Passes of one turn, and rows of them: after a call, a split and a join.
use Rattle.std.proofs.Common.{◌≡◌, ℕ, zero, suc, ◌<◌, Bool, List, [], ◌∷◌, ◌++◌, length, map, set, replicate, Some, slice_get, refl, sym, ap, ◌∙◌, subst, ⊎_elim, append_assoc, length-set, arith}
use Rattle.std.proofs.lemmas.Option.{slice_get_within}
use mathlib.Core.Logic.{dite}
use native.Mathlib.Decide.{ℕ_discrete}
use Rattle.std.specs.declared.snapshot.Snapshot.{Snapshot}
use Rattle.qs_part.specs.Histories.{Call, call, IsLegal}
use Rattle.qs_task.specs.Books.{one_more_at}
use Rattle.qs_turn.specs.declared.view.View.{View}
use Rattle.qs_turn.specs.Names.{Name, Known}
use Rattle.qs_turn.specs.Words.{opening, is_first, seen, own, out, IsPassOf, Calls, Joined}
use Rattle.qs_turn_rows.specs.Rows.{Pairs, Triples, Each, Forked, CalledAt}
use Rattle.qs_turn_rows.proofs.Places.{same_at, get_here, get_else}
use Rattle.qs_shared.specs.Hall.{IsLawfulPass}
use Rattle.qs_shared.specs.Passes.{FollowsPass}
use Rattle.qs_shared.specs.Following.{member_beside, pass_itself}

module _ {P O R : Type 0} (may : P → O → R → P → Type 0) where
  -- after a call the pass has seen a legal history that goes on what it had seen
  pub called_lawful : (t : Name (Snapshot P)) (k : Known (View P O R)) (q : ℕ) (a : O) (r : R) (n : Known (View P O R)) → IsPassOf t n → Calls may (opening t) k q a r n → IsLawfulPass may t n
  called_lawful t k q a r n of called = record { pass = of; legal = (called.after, called.runs) }

  pub called_follows : (o : P) (k : Known (View P O R)) (q : ℕ) (a : O) (r : R) (n : Known (View P O R)) → Calls may o k q a r n → FollowsPass k n
  called_follows o k q a r n called = record {
    seen_more = (called.between ++ call q a r ∷ [], called.sees ∙ append_assoc (seen k) called.between (call q a r ∷ []));
    same_first = called.same_first;
    same_out = called.same_out;
  }

  -- the same of a row, of which one pass called
  pub row_lawful : (ts : List (Name (Snapshot P))) (i : ℕ) (ks : List (Known (View P O R))) (q : ℕ) (a : O) (r : R) (ns : List (Known (View P O R))) → Pairs (IsLawfulPass may) ts ks → Pairs IsPassOf ts ns
      → CalledAt may ts i ks q a r ns → Pairs (IsLawfulPass may) ts ns
  row_lawful ts i ks q a r ns lawful of at = record {
    long = of.long;
    each = λ j t n e d. dite (ℕ_discrete j i)
        (λ same.
        let inside : i < length ks = slice_get_within ks i at.old at.was in
        let is : at.new ≡ n = same_at ns i at.new n (ap (λ (l : List (Known (View P O R))). slice_get l i) at.now ∙ get_here ks i at.new inside) (ap (slice_get ns) (sym same) ∙ d) in
        let turn : at.turn ≡ t = same_at ts i at.turn t at.of (ap (slice_get ts) (sym same) ∙ e) in
        record { pass = of.each j t n e d; legal = subst (λ (x : Known (View P O R)). IsLegal may (opening t) (seen x)) is (subst (λ (x : Name (Snapshot P)). IsLegal may (opening x) (seen at.new)) turn (at.called.after, at.called.runs)) })
        (λ ne. lawful.each j t n e (sym (get_else ks i j at.new ne) ∙ ap (λ (l : List (Known (View P O R))). slice_get l j) (sym at.now) ∙ d));
  }

  pub row_follows : (ts : List (Name (Snapshot P))) (i : ℕ) (ks : List (Known (View P O R))) (q : ℕ) (a : O) (r : R) (ns : List (Known (View P O R))) → CalledAt may ts i ks q a r ns → Pairs FollowsPass ks ns
  row_follows ts i ks q a r ns at = record {
    long = sym (ap length at.now ∙ length-set ks i at.new);
    each = λ j k n e d. dite (ℕ_discrete j i)
        (λ same.
        let inside : i < length ks = slice_get_within ks i at.old at.was in
        let is : at.new ≡ n = same_at ns i at.new n (ap (λ (l : List (Known (View P O R))). slice_get l i) at.now ∙ get_here ks i at.new inside) (ap (slice_get ns) (sym same) ∙ d) in
        let was : at.old ≡ k = same_at ks i at.old k at.was (ap (slice_get ks) (sym same) ∙ e) in
        subst (λ (x : Known (View P O R)). FollowsPass k x) is (subst (λ (x : Known (View P O R)). FollowsPass x at.new) was (called_follows (opening at.turn) at.old q a r at.new at.called)))
        (λ ne. subst (λ (x : Known (View P O R)). FollowsPass k x)
        (same_at ks j k n e (sym (get_else ks i j at.new ne) ∙ ap (λ (l : List (Known (View P O R))). slice_get l j) (sym at.now) ∙ d)) (pass_itself k));
  }

  -- the own calls of the one that called gain this call
  own_set : (ks : List (Known (View P O R))) (i : ℕ) (old new : Known (View P O R)) (c : Call O R) → slice_get ks i ≡ Some old → own new ≡ own old ++ c ∷ [] → map own (set ks i new) ≡ one_more_at i c (map own ks)
  own_set [] i old new c e gain = absurd (cc)
  own_set (k ∷ ks) zero old new c e gain =
      let is : k ≡ old = (let s : Some k ≡ Some old = e in cc) in
      ap (λ (l : List (Call O R)). l ∷ map own ks) (gain ∙ ap (λ (x : Known (View P O R)). own x ++ c ∷ []) (sym is))
  own_set (k ∷ ks) (suc i) old new c e gain = ap (λ (l : List (List (Call O R))). own k ∷ l) (own_set ks i old new c e gain)

  pub row_own : (ts : List (Name (Snapshot P))) (i : ℕ) (ks : List (Known (View P O R))) (q : ℕ) (a : O) (r : R) (ns : List (Known (View P O R))) → CalledAt may ts i ks q a r ns
      → map own ns ≡ one_more_at i (call q a r) (map own ks)
  row_own ts i ks q a r ns at = ap (map own) at.now ∙ own_set ks i at.old at.new (call q a r) at.was at.called.owns

  pub pairs_pass : (ts : List (Name (Snapshot P))) (ks : List (Known (View P O R))) → Pairs (IsLawfulPass may) ts ks → Pairs IsPassOf ts ks
  pairs_pass ts ks lawful = record { long = lawful.long; each = λ i t k e d. (lawful.each i t k e d).pass }

module _ {P O R : Type 0} where
  -- what each pass of a row is, it is later too
  pub first_later : (b : Bool) (ks ns : List (Known (View P O R))) → Pairs FollowsPass ks ns → Each (λ (k : Known (View P O R)). is_first k ≡ b) ks → Each (λ (k : Known (View P O R)). is_first k ≡ b) ns
  first_later b ks ns f all i n e = let k = member_beside ns ks i n (sym f.long) e in (f.each i k.0 n k.1 e).same_first ∙ all i k.0 k.1

  pub out_later : (m : ℕ) (ks ns : List (Known (View P O R))) → Pairs FollowsPass ks ns → Each (λ (k : Known (View P O R)). out k ≡ m) ks → Each (λ (k : Known (View P O R)). out k ≡ m) ns
  out_later m ks ns f all i n e = let k = member_beside ns ks i n (sym f.long) e in (f.each i k.0 n k.1 e).same_out ∙ all i k.0 k.1

  -- a map of a row that each member has the same of
  pub map_none : {B : Type 0} (f : Known (View P O R) → B) (z : B) (n : ℕ) (ks : List (Known (View P O R))) → length ks ≡ n → Each (λ (k : Known (View P O R)). f k ≡ z) ks → map f ks ≡ replicate n z
  map_none f z zero [] l all = refl
  map_none f z (suc n) [] l all = absurd (omega arith)
  map_none f z zero (k ∷ ks) l all = absurd (omega arith)
  map_none {B} f z (suc n) (k ∷ ks) l all = ap (λ (x : B). x ∷ map f ks) (all zero k refl) ∙ ap (λ (xs : List B). z ∷ xs) (map_none f z n ks (omega arith) (λ i x e. all (suc i) x e))

  -- two rows of which the members at each place have the same
  pub map_same : {B : Type 0} (f : Known (View P O R) → B) (ks ns : List (Known (View P O R))) → Pairs (λ (k n : Known (View P O R)). f n ≡ f k) ks ns → map f ns ≡ map f ks
  map_same f [] [] p = refl
  map_same f [] (n ∷ ns) p = absurd (let l = p.long in omega arith)
  map_same f (k ∷ ks) [] p = absurd (let l = p.long in omega arith)
  map_same {B} f (k ∷ ks) (n ∷ ns) p = ap (λ (x : B). x ∷ map f ns) (p.each zero k n refl refl) ∙ ap (λ (xs : List B). f k ∷ xs) (map_same f ks ns (record { long = (let l = p.long in omega arith); each = λ i x y e d. p.each (suc i) x y e d }))

  -- what a split leaves of a row, and what it gives
  pub forked_pairs : (Rel : Known (View P O R) → Known (View P O R) → Type 0) → ((k n g : Known (View P O R)) → Forked k n g → Rel k n) → (ks ns gs : List (Known (View P O R))) → Triples Forked ks ns gs → Pairs Rel ks ns
  forked_pairs Rel keep ks ns gs f = record {
    long = f.long ∙ sym f.second_long;
    each = λ i k n e d. let g = member_beside ns gs i n f.second_long d in keep k n g.0 (f.each i k n g.0 e d g.1);
  }

  pub given_pairs : (Rel : Known (View P O R) → Known (View P O R) → Type 0) → ((k n g : Known (View P O R)) → Forked k n g → Rel k g) → (ks ns gs : List (Known (View P O R))) → Triples Forked ks ns gs → Pairs Rel ks gs
  given_pairs Rel keep ks ns gs f = record {
    long = f.long;
    each = λ i k g e d. let n = member_beside gs ns i g (sym f.second_long) d in keep k n.0 g (f.each i k n.0 g e n.1 d);
  }

  pub given_each : (Such : Known (View P O R) → Type 0) → ((k n g : Known (View P O R)) → Forked k n g → Such g) → (ks ns gs : List (Known (View P O R))) → Triples Forked ks ns gs → Each Such gs
  given_each Such keep ks ns gs f i g e =
      let n = member_beside gs ns i g (sym f.second_long) e in
      let k = member_beside gs ks i g (sym f.long) e in
      keep k.0 n.0 g (f.each i k.0 n.0 g k.1 n.1 e)

  pub forked_each : (Such : Known (View P O R) → Type 0) (Was : Known (View P O R) → Type 0) → ((k n g : Known (View P O R)) → Forked k n g → Was k → Such n) → (ks ns gs : List (Known (View P O R))) → Triples Forked ks ns gs
      → Each Was ks → Each Such ns
  forked_each Such Was keep ks ns gs f was i n e =
      let g = member_beside ns gs i n f.second_long e in
      let k = member_beside ns ks i n (f.second_long ∙ sym f.long) e in
      keep k.0 n g.0 (f.each i k.0 n g.0 k.1 e g.1) (was i k.0 k.1)

  pub joined_each : (Such : Known (View P O R) → Type 0) (Was : Known (View P O R) → Type 0) → ((k o n : Known (View P O R)) → Joined k o n → Was k → Such n) → (ks os ns : List (Known (View P O R))) → Triples Joined ks os ns
      → Each Was ks → Each Such ns
  joined_each Such Was keep ks os ns j was i n e =
      let o = member_beside ns os i n (sym j.second_long) e in
      let k = member_beside ns ks i n (sym j.long) e in
      keep k.0 o.0 n (j.each i k.0 o.0 n k.1 o.1 e) (was i k.0 k.1)

module _ {P O R : Type 0} (may : P → O → R → P → Type 0) where
  -- after a split both passes have seen a legal history, as the first had
  legal_same : (t : Name (Snapshot P)) (k n : Known (View P O R)) → seen n ≡ seen k → IsPassOf t n → IsLawfulPass may t k → IsLawfulPass may t n
  legal_same t k n same of lawful = record { pass = of; legal = subst (λ (l : List (Call O R)). IsLegal may (opening t) l) (sym same) lawful.legal }

  pub same_lawful : (t : Name (Snapshot P)) (k n : Known (View P O R)) → seen n ≡ seen k → IsPassOf t n → IsLawfulPass may t k → IsLawfulPass may t n
  same_lawful = legal_same

  pub same_row : (ts : List (Name (Snapshot P))) (ks ns : List (Known (View P O R))) → Pairs (λ (k n : Known (View P O R)). seen n ≡ seen k) ks ns → Pairs IsPassOf ts ns → Pairs (IsLawfulPass may) ts ks → Pairs (IsLawfulPass may) ts ns
  same_row ts ks ns same of lawful = record {
    long = of.long;
    each = λ i t n e d. let k = member_beside ns ks i n (sym same.long) d in legal_same t k.0 n (same.each i k.0 n k.1 d) (of.each i t n e d) (lawful.each i t k.0 e k.1);
  }

  -- the longer of two legal histories is legal
  pub joined_lawful : (t : Name (Snapshot P)) (k o n : Known (View P O R)) → Joined k o n → IsPassOf t n → IsLawfulPass may t k → IsLawfulPass may t o → IsLawfulPass may t n
  joined_lawful t k o n j of one two = ⊎_elim (λ (e : seen n ≡ seen k). legal_same t k n e of one) (λ (e : seen n ≡ seen o). legal_same t o n e of two) j.longer

  pub joined_row : (ts : List (Name (Snapshot P))) (ks os ns : List (Known (View P O R))) → Triples Joined ks os ns → Pairs IsPassOf ts ns → Pairs (IsLawfulPass may) ts ks → Pairs (IsLawfulPass may) ts os → Pairs (IsLawfulPass may) ts ns
  joined_row ts ks os ns j of one two = record {
    long = of.long;
    each = λ i t n e d.
        let k = member_beside ns ks i n (sym j.long) d in
        let o = member_beside ns os i n (sym j.second_long) d in
        joined_lawful t k.0 o.0 n (j.each i k.0 o.0 n k.1 o.1 d) (of.each i t n e d) (one.each i t k.0 e k.1) (two.each i t o.0 e o.1);
  }
