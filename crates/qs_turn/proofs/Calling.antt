-- A new turn keeps the rule, and so do a take and a give.
use Rattle.std.proofs.Common.{◌≡◌, ◌≢◌, ℕ, zero, suc, ◌+◌, ◌*◌, ◌%◌, ◌<◌, Bool, true, false, true≢false, if◌then◌else◌, List, [], ◌∷◌, ◌++◌, length, set, Some, None, refl, sym, ap, ◌∙◌, subst, inl, inr, ⊎_elim, append-nil, length-append, length-set, arith}
use Rattle.std.specs.Prelude.{◌==◌, nat_lt, slice_index, slice_set}
use Rattle.std.proofs.lemmas.Bool.Decides.{nat_tests}
use mathlib.Core.Option.{some, none, some-ne-none, some-injective}
use prog.Atomic.{either}
use lib.ListN.{get_elem?}
use Rattle.atomic_table.specs.Table.{State, Me, Act, step, stepped, opening, Allows, Valid, carried_after, put_back, rest, keeps, takes, gives}
use Rattle.atomic_table.proofs.Lists.{set_again, exchanged}
use Rattle.qs_part.specs.Histories.{Call, call, StandsFor}
use Rattle.qs_turn.specs.declared.view.Entry.{Entry}
use Rattle.qs_turn.specs.declared.view.Said.{Said}
use Rattle.qs_turn.specs.declared.view.Slot.{Slot}
use Rattle.qs_turn.specs.declared.view.View.{View}
use Rattle.qs_turn.specs.Rule.{word_at, has, calls, of, slot, first_view, times_of, numbers_of, Fits, IsFree, IsTaken, Kept}
use Rattle.qs_turn.specs.Steps.{with_turn, Took, taken, added, said_of, given}
use Rattle.qs_turn.proofs.Sums.{set_at, word_set, word_same, has_times, total_one, once_below_of}
use Rattle.qs_turn.proofs.Histories.{calls_snoc, of-append, of_mine, within_nothing, within_more, within_all, named_snoc}
use Rattle.qs_part.proofs.Histories.{stands_snoc}
use Rattle.qs_turn.proofs.Views.{each_set, fits_word, total_same, apart, apart_joining}

off : false ≡ true → ⊥
off e = true≢false (sym e)

-- the slot that was taken last stands in front
pub first_slot : {S : Type 0} (xs : List (ℕ × S)) (x : ℕ × S) (ys : List (ℕ × S)) → xs ≡ x ∷ ys → xs ≡ x ∷ rest xs
first_slot xs x ys e = e ∙ ap (λ l. x ∷ l) (sym (ap rest e))

module _ {P O R : Type 0} (may : P → O → R → P → Type 0) (o : P) where
  once_one : (k : ℕ) (a b : Bool) → (k == 0) ≡ a → nat_lt k 1 ≡ b → ((if a then 1 else 0) + 0 + 0) + 0 ≡ (if b then 1 else 0)
  once_one k true true e d = refl
  once_one k true false e d = absurd (grind (arith, nat_tests))
  once_one k false true e d = absurd (grind (arith, nat_tests))
  once_one k false false e d = refl

  first_fits : Fits o [] o 0 0 0 0 (first_view {P = P} {O = O} {R = R} o)
  first_fits = record {
    mine = record { after = []; split = refl; foreign = refl; listed = refl };
    joining = within_nothing [];
    opened = λ q e. ((let s : o ≡ q = cc in sym s), refl);
    head = λ _. (refl, refl);
    holds = λ p e. absurd (cc);
  }

  first_each : (j : ℕ) (v : View P O R) → get_elem? (first_view {P = P} {O = O} {R = R} o ∷ []) j ≡ some v → Fits o [] o 0 0 0 j v
  first_each zero v e = subst (λ (u : View P O R). Fits o [] o 0 0 0 0 u) (some-injective (first_view o) v e) first_fits
  first_each (suc j) v e = absurd (some-ne-none v (sym e))

  -- a new turn
  begins : (ws : List ℕ) → length ws ≡ 16 → slice_index ws word_at ≡ 0 → Kept may o (opening ws (slot (Some o) None ∷ []) (first_view {P = P} {O = O} {R = R} o))
  begins ws long free = record {
    log = [];
    state = o;
    holder = 0;
    made = 0;
    row = long;
    runs = refl;
    named = tt;
    numbers = λ k. once_one k (k == 0) (nat_lt k 1) refl refl;
    counted = refl;
    each = subst (λ (n : ℕ). (j : ℕ) (v : View P O R) → get_elem? (first_view {P = P} {O = O} {R = R} o ∷ []) j ≡ some v → Fits o [] o n 0 0 j v) (sym free) first_each;
    turn = inl (record { word = free; said = None; home = refl });
  }

  pub begins_as : (ws : List ℕ) (x : P) (slots : List (Slot P O R)) → length ws ≡ 16 → slice_index ws word_at ≡ 0 → x ≡ o → slots ≡ slot (Some o) None ∷ [] → Kept may x (opening ws slots (first_view x))
  begins_as ws x slots long free same is =
      subst (λ (y : P). Kept may y (opening ws slots (first_view y))) (sym same)
      (subst (λ (l : List (Slot P O R)). Kept may o (opening ws l (first_view o))) (sym is) (begins ws long free))

  -- what was seen grew to the whole history
  with_turn_fits : (log : List (Entry O R)) (state : P) (word holder made id : ℕ) (v : View P O R)
      → Fits o log state word holder made id v → v.opening ≡ Some o → Fits o log state (2 * length log + 1) id made id (with_turn v log state)
  with_turn_fits log state word holder made id v f opened = record {
    mine = record { after = []; split = sym (append-nil log); foreign = refl; listed = sym (within_all log v.mine f.mine) };
    joining = f.joining;
    opened = f.opened;
    head = f.head;
    holds = λ p e. (refl, refl, (let s : state ≡ p = cc in sym s), refl, opened);
  }

  -- a free turn was taken
  take_free : (id old : ℕ) (m : Me (Slot P O R) (View P O R)) (s : State (Slot P O R) (View P O R)) (kept : Kept may o s) (free : IsFree kept.log kept.state s)
      → m.0.opening ≡ Some o → get_elem? s.views id ≡ some m.0 → slice_index s.words word_at ≡ old
      → Kept may o (stepped s word_at (old + 1) id m.1 (with_turn m.0 kept.log kept.state) (takes 0 (slot (Some kept.state) free.said)))
  take_free id old m s kept free opened at is =
      let log = kept.log in
      let w = with_turn m.0 log kept.state in
      let even : old ≡ 2 * length log = sym is ∙ free.word in
      let word : slice_index (slice_set s.words word_at (old + 1)) word_at ≡ old + 1 = word_set s.words (old + 1) kept.row in
      let odd : 2 * length log + 1 ≡ slice_index (slice_set s.words word_at (old + 1)) word_at = ap (λ (n : ℕ). n + 1) (sym even) ∙ sym word in
      let others : (j : ℕ) (v : View P O R) → j ≢ id → get_elem? s.views j ≡ some v → Fits o log kept.state (2 * length log + 1) id kept.made j v =
      λ j v ne e. let f = kept.each j v e in
      fits_word o log kept.state kept.state (slice_index s.words word_at) (2 * length log + 1) kept.holder id kept.made j v f (λ p t. let h = (f.holds p t).0 in let z = free.word in absurd (omega arith)) in
      record {
        log = log;
        state = kept.state;
        holder = id;
        made = kept.made;
        row = length-set s.words word_at (old + 1) ∙ kept.row;
        runs = kept.runs;
        named = kept.named;
        numbers = λ k. total_same (times_of k) s.views id m.0 w at refl ∙ kept.numbers k;
        counted = total_same numbers_of s.views id m.0 w at refl ∙ kept.counted;
        each = subst (λ (n : ℕ). (j : ℕ) (v : View P O R) → get_elem? (set s.views id w) j ≡ some v → Fits o log kept.state n id kept.made j v) odd
            (each_set o log kept.state (2 * length log + 1) id kept.made s.views id w others (with_turn_fits log kept.state (slice_index s.words word_at) kept.holder kept.made id m.0 (kept.each id m.0 at) opened));
        turn = inr (record {
          word = sym odd;
          home = ap (λ (hs : List (mathlib.Core.Option.Option (Slot P O R))). slice_set hs 0 none) free.home;
          view = w;
          at = set_at s.views id m.0 w at;
          turn = refl;
        });
      }

  -- nothing happened
  pub stays : (id : ℕ) (m : Me (Slot P O R) (View P O R)) (s : State (Slot P O R) (View P O R)) → Kept may o s → get_elem? s.views id ≡ some m.0
      → Kept may o (stepped s word_at (slice_index s.words word_at) id m.1 m.0 keeps)
  stays id m s kept at = subst (Kept may o) (λ i. record { words = sym (word_same s.words) i; homes = s.homes; views = sym (set_again s.views id m.0 at) i }) kept

  -- a compare and exchange takes a free turn, or finds another word
  pub takes_turn : (slots id old : ℕ) (m : Me (Slot P O R) (View P O R)) → m.0.opening ≡ Some o → old % 2 ≡ 0
      → Allows (Kept may o) slots id m word_at (λ n. either (n == old) (old + 1) n) (taken may (step slots word_at old (old + 1) none) m)
  takes_turn slots id old m opened even s kept long at small =
      let tells : ℕ → Me (Slot P O R) (View P O R) → Type 0 = taken may (step slots word_at old (old + 1) none) m in
      let Goal : ℕ → Type 0 = λ x. (w : View P O R) × (a : Act (Slot P O R)) × Valid s.homes m.1 a × Kept may o (stepped s word_at x id m.1 w a) × tells (slice_index s.words word_at) (w, carried_after m.1 a) in
      let miss : slice_index s.words word_at ≢ old → Goal (slice_index s.words word_at) =
      λ ne. (m.0, keeps, tt, stays id m s kept at, ((λ _. refl), (λ q _ same. absurd (ne same)))) in
      let free_of : slice_index s.words word_at ≡ old → IsFree kept.log kept.state s =
      λ is. ⊎_elim (λ (free : IsFree kept.log kept.state s). free) (λ (held : IsTaken kept.log kept.state kept.holder s). absurd (let z = held.word in let e = even in omega arith)) kept.turn in
      let hit : slice_index s.words word_at ≡ old → Goal (old + 1) =
      λ is. let free = free_of is in (
        with_turn m.0 kept.log kept.state,
        takes 0 (slot (Some kept.state) free.said),
        ap (λ (hs : List (mathlib.Core.Option.Option (Slot P O R))). get_elem? hs 0) free.home,
        take_free id old m s kept free opened at is,
        (
          (λ ne. absurd (ne is)),
          λ q first same. record {
            log = kept.log;
            state = kept.state;
            said = free.said;
            view = refl;
            out = refl;
            even = free.word;
            more = (let f = (kept.each id m.0 at).mine in (f.after, f.split));
            runs = subst (λ (x : P). StandsFor may x (calls kept.log) kept.state) (let z : o ≡ q = cc in z) kept.runs;
          },
        ),
      ) in
      exchanged (slice_index s.words word_at) old (old + 1) Goal hit miss

  pub took_as : (found word : ℕ) (m k m' : Me (Slot P O R) (View P O R)) → found ≡ word → m ≡ k → Took may o found m m' → Took may o word k m'
  took_as found word m k m' same still t =
      subst (λ (n : ℕ). Took may o n k m') same (subst (λ (x : Me (Slot P O R) (View P O R)). Took may o found x m') still t)

  -- the caller has seen the whole history, which is one call longer
  added_fits : (log : List (Entry O R)) (state part : P) (word new holder made id : ℕ) (q : ℕ) (a : O) (r : R) (v : View P O R)
      → Fits o log state word holder made id v → v.opening ≡ Some o → v.mine.seen ≡ log → has v.joining.owned v.number ≡ false
      → Fits o (log ++ record { by = v.number; call = call q a r } ∷ []) part new holder made id (added v q a r)
  added_fits log state part word new holder made id q a r v f opened whole other =
      let e : Entry O R = record { by = v.number; call = call q a r } in
      let mine : has v.mine.owned v.number ≡ true = (f.opened o opened).1 in
      record {
        mine = record {
          after = [];
          split = ap (λ l. l ++ e ∷ []) (sym whole) ∙ sym (append-nil (v.mine.seen ++ e ∷ []));
          foreign = refl;
          listed = ap (λ l. l ++ call q a r ∷ []) f.mine.listed ∙ ap (λ l. of v.mine.owned v.mine.seen ++ l) (sym (of_mine v.mine.owned e mine)) ∙ sym (of-append v.mine.owned v.mine.seen (e ∷ []));
        };
        joining = within_more log v.joining e f.joining other;
        opened = f.opened;
        head = f.head;
        holds = λ p t. absurd (cc);
      }

  -- a held turn was given back
  give_held : (id new : ℕ) (m : Me (Slot P O R) (View P O R)) (before part : P) (said : Said O R) (s : State (Slot P O R) (View P O R)) (kept : Kept may o s)
      → IsTaken kept.log kept.state kept.holder s → get_elem? s.views id ≡ some m.0
      → m.0.turn ≡ Some before → m.1 ≡ (0, slot (Some part) (Some said)) ∷ [] → may before said.op.value said.reply.value part → new ≡ 2 * length m.0.mine.seen + 2
      → Kept may o (stepped s word_at new id m.1 (added m.0 said.request said.op.value said.reply.value) gives)
  give_held id new m before part said s kept held at turn out stepping even =
      let q = said.request in let a = said.op.value in let r = said.reply.value in
      let v = m.0 in
      let w = added v q a r in
      let e : Entry O R = record { by = v.number; call = call q a r } in
      let f = kept.each id v at in
      let h = f.holds before turn in
      let log' = kept.log ++ e ∷ [] in
      let mine : has v.mine.owned v.number ≡ true = (f.opened o h.4).1 in
      let long : length log' ≡ length kept.log + 1 = length-append kept.log (e ∷ []) in
      let word : slice_index (slice_set s.words word_at new) word_at ≡ new = word_set s.words new kept.row in
      let seen : length v.mine.seen ≡ length kept.log = ap length h.3 in
      let below : v.number < kept.made + 1 =
      let one = total_one (times_of v.number) s.views id v at in let t = has_times v.mine.owned v.number mine in let z = kept.numbers v.number in
      once_below_of v.number (kept.made + 1) (omega arith) in
      let others : (j : ℕ) (u : View P O R) → j ≢ id → get_elem? s.views j ≡ some u → Fits o log' part (slice_index (slice_set s.words word_at new) word_at) kept.holder kept.made j u =
      λ j u ne d. let g = kept.each j u d in let other = apart s.views (kept.made + 1) id j v.number v u (kept.numbers v.number) at d ne mine in record {
        mine = within_more kept.log u.mine e g.mine other.0;
        joining = within_more kept.log u.joining e g.joining other.1;
        opened = g.opened;
        head = g.head;
        holds = λ p t. absurd (ne ((g.holds p t).1 ∙ sym h.1));
      } in
      record {
        log = log';
        state = part;
        holder = kept.holder;
        made = kept.made;
        row = length-set s.words word_at new ∙ kept.row;
        runs = subst (λ (l : List (Call O R)). StandsFor may o l part) (sym (calls_snoc kept.log e))
            (stands_snoc may o (calls kept.log) kept.state q a r part kept.runs (subst (λ (x : P). may x a r part) h.2 stepping));
        named = named_snoc (kept.made + 1) kept.log e kept.named below;
        numbers = λ k. total_same (times_of k) s.views id v w at refl ∙ kept.numbers k;
        counted = total_same numbers_of s.views id v w at refl ∙ kept.counted;
        each = each_set o log' part (slice_index (slice_set s.words word_at new) word_at) kept.holder kept.made s.views id w others
            (added_fits kept.log kept.state part (slice_index s.words word_at) (slice_index (slice_set s.words word_at new) word_at) kept.holder kept.made id q a r v f h.4 h.3
            (apart_joining s.views (kept.made + 1) id v.number v (kept.numbers v.number) at mine));
        turn = inl (record {
          word = word ∙ even ∙ omega arith;
          said = Some said;
          home = home;
        });
      }
    where
      home : put_back s.homes m.1 ≡ some (slot (Some part) (Some said)) ∷ []
      home = ap (λ (c : List (ℕ × Slot P O R)). put_back s.homes c) out ∙ ap (λ (hs : List (mathlib.Core.Option.Option (Slot P O R))). slice_set hs 0 (some (slot (Some part) (Some said)))) held.home

  -- a store gives the turn back
  pub gives_turn : (slots id new : ℕ) (m : Me (Slot P O R) (View P O R)) (before part : P) (said : Said O R)
      → m.0.turn ≡ Some before → m.1 ≡ (0, slot (Some part) (Some said)) ∷ [] → may before said.op.value said.reply.value part → new ≡ 2 * length m.0.mine.seen + 2
      → Allows (Kept may o) slots id m word_at (λ _. new) (λ _. given (step slots word_at new 0 none) m new)
  gives_turn slots id new m before part said turn out stepping even s kept long at small =
      let f = kept.each id m.0 at in
      let h = f.holds before turn in
      let held : IsTaken kept.log kept.state kept.holder s =
      ⊎_elim (λ (free : IsFree kept.log kept.state s). absurd (let a = free.word in let b = h.0 in omega arith)) (λ (x : IsTaken kept.log kept.state kept.holder s). x) kept.turn in (
        added m.0 said.request said.op.value said.reply.value,
        gives,
        tt,
        give_held id new m before part said s kept held at turn out stepping even,
        told,
      )
    where
      told : given (step slots word_at new 0 none) m new (added m.0 said.request said.op.value said.reply.value, rest m.1)
      told other e =
          let same : said ≡ other = (let z : said_of m.1 ≡ Some said = ap said_of out in cc) in
          ap (λ (x : Said O R). (added m.0 x.request x.op.value x.reply.value, rest m.1)) same
