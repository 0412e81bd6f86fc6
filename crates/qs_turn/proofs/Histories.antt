-- Histories: fronts of one list, and calls by the numbers that made them.
use Rattle.std.proofs.Common.{◌≡◌, ℕ, ◌+◌, ◌<◌, ◌≤◌, Bool, true, false, List, [], ◌∷◌, ◌++◌, length, refl, sym, ap, ◌∙◌, subst, inl, inr, ⊎_elim, append_assoc, append-nil, length-append, arith}
use Rattle.std.specs.Prelude.{◌==◌, nat_lt, ◌||◌, if◌then◌else◌}
use Rattle.std.proofs.lemmas.List.{map-append}
use Rattle.std.proofs.lemmas.Bool.Decides.{nat_tests}
use Rattle.qs_part.specs.Histories.{Call}
use Rattle.qs_turn.specs.declared.view.Entry.{Entry}
use Rattle.qs_turn.specs.declared.view.Half.{Half}
use Rattle.qs_turn.specs.Orders.{StartsWith, Merges}
use Rattle.qs_turn.specs.Rule.{has, calls, of, NamesBelow, nothing, Within}
use Rattle.qs_turn.specs.Steps.{longer, both_halves}
use Rattle.qs_turn.proofs.Sums.{has-append}

module _ {A : Type 0} where
  pub append_none : (xs ys : List A) → xs ++ ys ≡ [] → (xs ≡ []) × (ys ≡ [])
  append_none [] ys e = (refl, e)
  append_none (x ∷ xs) ys e = absurd (cc)

  -- a list that a rest doesn't lengthen has none
  pub append_self : (xs ys : List A) → xs ++ ys ≡ xs → ys ≡ []
  append_self xs [] e = refl
  append_self xs (y ∷ ys) e = absurd (omega (arith, ap length e, length-append xs (y ∷ ys)))

  -- of two fronts of one list the longer begins with the shorter
  pub split_two : (xs us ys vs : List A) → xs ++ us ≡ ys ++ vs → length xs ≤ length ys → StartsWith ys xs
  split_two [] us ys vs e h = (ys, refl)
  split_two (x ∷ xs) us [] vs e h = absurd (omega arith)
  split_two (x ∷ xs) us (y ∷ ys) vs e h =
      let t : xs ++ us ≡ ys ++ vs = cc in
      let s : x ≡ y = cc in
      let r = split_two xs us ys vs t (omega arith) in
      (r.0, λ i. sym s i ∷ r.1 i)

  pub starts_self : (xs : List A) → StartsWith xs xs
  starts_self xs = ([], sym (append-nil xs))

  pub merges_none : (zs : List A) → Merges [] [] zs → zs ≡ []
  merges_none [] m = refl
  merges_none (z ∷ zs) m = absurd (⊎_elim (λ (t : (rest : List A) × ([] ≡ z ∷ rest) × Merges rest [] zs). no t.0 t.1) (λ (t : (rest : List A) × ([] ≡ z ∷ rest) × Merges [] rest zs). no t.0 t.1) m)
    where
      no : (rest : List A) → [] ≡ z ∷ rest → ⊥
      no rest e = cc

  -- two lists put together are as long as both
  pub merges_length : (xs ys zs : List A) → Merges xs ys zs → length zs ≡ length xs + length ys
  merges_length xs ys [] m = let a = ap length m.0 in let b = ap length m.1 in omega arith
  merges_length xs ys (z ∷ zs) m = ⊎_elim
      (λ (t : (rest : List A) × (xs ≡ z ∷ rest) × Merges rest ys zs). let h = merges_length t.0 ys zs t.2 in let a = ap length t.1 in omega arith)
      (λ (t : (rest : List A) × (ys ≡ z ∷ rest) × Merges xs rest zs). let h = merges_length xs t.0 zs t.2 in let a = ap length t.1 in omega arith)
      m

module _ {O R : Type 0} where
  pub calls_snoc : (log : List (Entry O R)) (e : Entry O R) → calls (log ++ e ∷ []) ≡ calls log ++ e.call ∷ []
  calls_snoc log e = map-append (λ (x : Entry O R). x.call) log (e ∷ [])

  pub calls_none : (log : List (Entry O R)) → calls log ≡ [] → log ≡ []
  calls_none [] e = refl
  calls_none (x ∷ xs) e = absurd (cc)

  pub calls_starts : (log front : List (Entry O R)) → StartsWith log front → StartsWith (calls log) (calls front)
  calls_starts log front s = (calls s.0, ap calls s.1 ∙ map-append (λ (x : Entry O R). x.call) front s.0)

  pub of-append : (owned : List ℕ) (xs ys : List (Entry O R)) → of owned (xs ++ ys) ≡ of owned xs ++ of owned ys
  of-append owned [] ys = refl
  of-append owned (e ∷ es) ys = go (has owned e.by) (of-append owned es ys)
    where
      go : (b : Bool) → of owned (es ++ ys) ≡ of owned es ++ of owned ys → (if b then e.call ∷ of owned (es ++ ys) else of owned (es ++ ys)) ≡ (if b then e.call ∷ of owned es else of owned es) ++ of owned ys
      go true h = ap (λ l. e.call ∷ l) h
      go false h = h

  pub of_none : (log : List (Entry O R)) → of [] log ≡ []
  of_none [] = refl
  of_none (e ∷ es) = of_none es

  -- one entry, made under one of the numbers or under another
  pub of_mine : (owned : List ℕ) (e : Entry O R) → has owned e.by ≡ true → of owned (e ∷ []) ≡ e.call ∷ []
  of_mine owned e h = ap (λ (b : Bool). if b then e.call ∷ [] else []) h

  pub of_other : (owned : List ℕ) (e : Entry O R) → has owned e.by ≡ false → of owned (e ∷ []) ≡ []
  of_other owned e h = ap (λ (b : Bool). if b then e.call ∷ [] else []) h

  -- where all numbers are owned, all calls are own calls
  pub of_all : (owned : List ℕ) (n : ℕ) (log : List (Entry O R)) → NamesBelow n log → ((k : ℕ) → k < n → has owned k ≡ true) → of owned log ≡ calls log
  of_all owned n [] named all = refl
  of_all owned n (e ∷ es) named all = ap (λ (b : Bool). if b then e.call ∷ of owned es else of owned es) (all e.by named.0) ∙ ap (λ l. e.call ∷ l) (of_all owned n es named.1 all)

  -- the calls of two lists of numbers that have none in common
  pub of_merges : (a b : List ℕ) (log : List (Entry O R)) → ((k : ℕ) → has a k ≡ true → has b k ≡ true → ⊥) → Merges (of a log) (of b log) (of (a ++ b) log)
  of_merges a b [] apart = (refl, refl)
  of_merges a b (e ∷ es) apart =
      let rest = of_merges a b es apart in
      let P : Bool → Type 0 = λ d. Merges (of a (e ∷ es)) (of b (e ∷ es)) (if d then e.call ∷ of (a ++ b) es else of (a ++ b) es) in
      subst P (sym (has-append a b e.by)) (go (has a e.by) (has b e.by) refl refl rest)
    where
      go : (x y : Bool) → has a e.by ≡ x → has b e.by ≡ y → Merges (of a es) (of b es) (of (a ++ b) es)
          → Merges (if x then e.call ∷ of a es else of a es) (if y then e.call ∷ of b es else of b es) (if x || y then e.call ∷ of (a ++ b) es else of (a ++ b) es)
      go true true p q m = absurd (apart e.by p q)
      go true false p q m = inl (of a es, refl, m)
      go false true p q m = inr (of b es, refl, m)
      go false false p q m = m

  pub named_more : (n m : ℕ) (log : List (Entry O R)) → n ≤ m → NamesBelow n log → NamesBelow m log
  named_more n m [] h named = tt
  named_more n m (e ∷ es) h named = (omega (arith, named.0), named_more n m es h named.1)

  pub named_snoc : (n : ℕ) (log : List (Entry O R)) (e : Entry O R) → NamesBelow n log → e.by < n → NamesBelow n (log ++ e ∷ [])
  named_snoc n [] e named h = (h, tt)
  named_snoc n (x ∷ xs) e named h = (named.0, named_snoc n xs e named.1 h)

  pub named_after : (n : ℕ) (xs ys : List (Entry O R)) → NamesBelow n (xs ++ ys) → NamesBelow n ys
  named_after n [] ys named = named
  named_after n (x ∷ xs) ys named = named_after n xs ys named.1

  pub named_before : (n : ℕ) (xs ys : List (Entry O R)) → NamesBelow n (xs ++ ys) → NamesBelow n xs
  named_before n [] ys named = tt
  named_before n (x ∷ xs) ys named = (named.0, named_before n xs ys named.1)

  -- a number that wasn't made yet has no calls
  pub named_of : (n : ℕ) (log : List (Entry O R)) → NamesBelow n log → of (n ∷ []) log ≡ []
  named_of n [] named = refl
  named_of n (e ∷ es) named = go (e.by == n) refl (named_of n es named.1)
    where
      go : (b : Bool) → (e.by == n) ≡ b → of (n ∷ []) es ≡ [] → (if (b || false) then e.call ∷ of (n ∷ []) es else of (n ∷ []) es) ≡ []
      go true d h = absurd (let below : e.by < n = named.0 in grind (arith, nat_tests))
      go false d h = h

  -- the history grew by a call of another
  pub within_more : (log : List (Entry O R)) (h : Half O R) (e : Entry O R) → Within log h → has h.owned e.by ≡ false → Within (log ++ e ∷ []) h
  within_more log h e w other = record {
    after = w.after ++ e ∷ [];
    split = ap (λ l. l ++ e ∷ []) w.split ∙ append_assoc h.seen w.after (e ∷ []);
    foreign = of-append h.owned w.after (e ∷ []) ∙ ap (λ l. l ++ of h.owned (e ∷ [])) w.foreign ∙ of_other h.owned e other;
    listed = w.listed;
  }

  pub within_nothing : (log : List (Entry O R)) → Within log nothing
  within_nothing log = record { after = log; split = refl; foreign = of_none log; listed = refl }

  -- the calls of a pass in the whole history are those in what it has seen
  pub within_all : (log : List (Entry O R)) (h : Half O R) → Within log h → of h.owned log ≡ h.own
  within_all log h w = ap (of h.owned) w.split ∙ of-append h.owned h.seen w.after ∙ ap (λ l. of h.owned h.seen ++ l) w.foreign ∙ append-nil (of h.owned h.seen) ∙ sym w.listed

  -- up to a front of the history that is no shorter, the calls are the same, and after it there are none
  pub within_front : (log front after : List (Entry O R)) (h : Half O R) → Within log h → log ≡ front ++ after → StartsWith front h.seen → (of h.owned front ≡ h.own) × (of h.owned after ≡ [])
  within_front log front after h w split s =
      let all : (h.own ++ of h.owned s.0) ++ of h.owned after ≡ h.own =
      ap (λ l. (l ++ of h.owned s.0) ++ of h.owned after) w.listed ∙ ap (λ l. l ++ of h.owned after) (sym (of-append h.owned h.seen s.0) ∙ sym (ap (of h.owned) s.1))
      ∙ sym (of-append h.owned front after) ∙ sym (ap (of h.owned) split) ∙ within_all log h w in
      let both = append_none (of h.owned s.0) (of h.owned after) (append_self h.own (of h.owned s.0 ++ of h.owned after) (sym (append_assoc h.own (of h.owned s.0) (of h.owned after)) ∙ all)) in
      (ap (of h.owned) s.1 ∙ of-append h.owned h.seen s.0 ∙ ap (λ l. of h.owned h.seen ++ l) both.0 ∙ append-nil (of h.owned h.seen) ∙ sym w.listed, both.1)

  -- the longer of two fronts is a front, which begins with both
  pub longer_front : (log : List (Entry O R)) (h k : Half O R) → Within log h → Within log k
      → (after : List (Entry O R)) × (log ≡ longer h.seen k.seen ++ after) × StartsWith (longer h.seen k.seen) h.seen × StartsWith (longer h.seen k.seen) k.seen
  longer_front log h k w u = go (nat_lt (length h.seen) (length k.seen)) refl
    where
      go : (b : Bool) → nat_lt (length h.seen) (length k.seen) ≡ b
          → (after : List (Entry O R)) × (log ≡ (if b then k.seen else h.seen) ++ after) × StartsWith (if b then k.seen else h.seen) h.seen × StartsWith (if b then k.seen else h.seen) k.seen
      go true e = (u.after, u.split, split_two h.seen w.after k.seen u.after (sym w.split ∙ u.split) (grind (arith, nat_tests)), starts_self k.seen)
      go false e = (w.after, w.split, starts_self h.seen, split_two k.seen u.after h.seen w.after (sym u.split ∙ w.split) (grind (arith, nat_tests)))

  -- two halves with no number in common make one
  pub within_both : (log : List (Entry O R)) (h k : Half O R) → Within log h → Within log k → ((n : ℕ) → has h.owned n ≡ true → has k.owned n ≡ true → ⊥)
      → Within log (both_halves h k) × Merges h.own k.own (both_halves h k).own
  within_both log h k w u apart =
      let f = longer_front log h k w u in
      let a = within_front log (longer h.seen k.seen) f.0 h w f.1 f.2 in
      let b = within_front log (longer h.seen k.seen) f.0 k u f.1 f.3 in
      let none : Merges [] [] (of (h.owned ++ k.owned) f.0) =
      subst (λ (z : List (Call O R)). Merges [] z (of (h.owned ++ k.owned) f.0)) b.1 (subst (λ (z : List (Call O R)). Merges z (of k.owned f.0) (of (h.owned ++ k.owned) f.0)) a.1 (of_merges h.owned k.owned f.0 apart)) in
      let own : Merges h.own k.own (of (h.owned ++ k.owned) (longer h.seen k.seen)) =
      subst (λ (z : List (Call O R)). Merges h.own z (of (h.owned ++ k.owned) (longer h.seen k.seen))) b.0 (subst (λ (z : List (Call O R)). Merges z (of k.owned (longer h.seen k.seen)) (of (h.owned ++ k.owned) (longer h.seen k.seen))) a.0 (of_merges h.owned k.owned (longer h.seen k.seen) apart)) in
      (record { after = f.0; split = f.1; foreign = merges_none (of (h.owned ++ k.owned) f.0) none; listed = refl }, own)
