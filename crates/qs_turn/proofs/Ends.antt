-- A split, a join and a look keep the rule, and what a close finds.
use Rattle.std.proofs.Common.{◌≡◌, ◌≢◌, ℕ, ◌+◌, ◌-◌, ◌<◌, Bool, true, false, true≢false, List, [], ◌∷◌, ◌++◌, length, set, Option, Some, None, refl, sym, ap, ◌∙◌, subst, inl, inr, ⊎_elim, append-nil, length-append, eq-eqb, arith}
use Rattle.std.specs.Prelude.{◌==◌, ◌||◌, if◌then◌else◌, slice_index}
use mathlib.Core.Option.{some, some-injective}
use lib.ListN.{get_elem?}
use Rattle.atomic_table.specs.Table.{State, Me, step, Allows, Splits, Joins, Seen, Final, keeps}
use Rattle.atomic_table.proofs.Lists.{at_snoc, at_longer, set_else}
use Rattle.qs_turn.specs.declared.view.Entry.{Entry}
use Rattle.qs_turn.specs.declared.view.Said.{Said}
use Rattle.qs_turn.specs.declared.view.Slot.{Slot}
use Rattle.qs_turn.specs.declared.view.View.{View}
use Rattle.qs_part.specs.Histories.{StandsFor}
use Rattle.qs_turn.specs.Idle.{IsIdle}
use Rattle.qs_turn.specs.Names.{Known}
use Rattle.qs_turn.specs.Words.{seen}
use Rattle.qs_turn.specs.Rule.{word_at, has, times, once_below, total, calls, NamesBelow, nothing, slot, times_of, numbers_of, Fits, IsFree, IsTaken, Kept}
use Rattle.qs_turn.specs.Steps.{forked, newcomer, beside, spent, settled, looked}
use Rattle.qs_turn.proofs.Sums.{total_set, total_snoc, total_one, total_two, total_only, times_short, times-append, has_times, times_has, has-append, once_yes, once_at_most, once_more, word_same}
use Rattle.qs_turn.proofs.Histories.{calls_none, of_all, named_more, named_before, named_after, named_of, within_nothing, longer_front, within_both}
use Rattle.qs_turn.proofs.Views.{each_set, total_same}

off : false ≡ true → ⊥
off e = true≢false (sym e)

module _ {P O R : Type 0} (may : P → O → R → P → Type 0) (o : P) where
  -- who holds the turn isn't a view that hasn't it
  not_holder : (log : List (Entry O R)) (state : P) (holder id : ℕ) (v : View P O R) (s : State (Slot P O R) (View P O R)) (held : IsTaken log state holder s)
      → get_elem? s.views id ≡ some v → v.turn ≡ None → holder ≢ id
  not_holder log state holder id v s held at none same =
      let there : some held.view ≡ some v = sym held.at ∙ ap (get_elem? s.views) same ∙ at in
      let is : held.view ≡ v = some-injective held.view v there in
      let z : Some state ≡ None = sym held.turn ∙ ap (λ (x : View P O R). x.turn) is ∙ none in
      absurd (cc)

  -- the new view of the pass that was split off
  newcomer_fits : (log : List (Entry O R)) (state : P) (word holder made id seat : ℕ) (v : View P O R)
      → Fits o log state word holder made id v → NamesBelow (made + 1) log → v.made ≡ made → Fits o log state word holder (made + 1) seat (newcomer v)
  newcomer_fits log state word holder made id seat v f named is =
      let n : made + 1 ≡ v.made + 1 = ap (λ (k : ℕ). k + 1) (sym is) in
      let all : NamesBelow (v.made + 1) (v.mine.seen ++ f.mine.after) = subst (λ (k : ℕ). NamesBelow k (v.mine.seen ++ f.mine.after)) n (subst (NamesBelow (made + 1)) f.mine.split named) in record {
        mine = record {
          after = f.mine.after;
          split = f.mine.split;
          foreign = named_of (v.made + 1) f.mine.after (named_after (v.made + 1) v.mine.seen f.mine.after all);
          listed = sym (named_of (v.made + 1) v.mine.seen (named_before (v.made + 1) v.mine.seen f.mine.after all));
        };
        joining = within_nothing log;
        opened = λ q e. ((f.opened q e).0, ap (λ (b : Bool). b || false) (eq-eqb (v.made + 1) (v.made + 1) refl));
        head = λ e. absurd (off e);
        holds = λ p e. absurd (cc);
      }

  -- a pass is split off the first
  pub splits_first : (id : ℕ) (v : View P O R) → v.first ≡ true → v.turn ≡ None → Splits (Kept may o) id v (forked v) (newcomer v)
  splits_first id v first none s kept at =
      let f = kept.each id v at in
      let is : v.made ≡ kept.made = (f.head first).1 in
      let views = set s.views id (forked v) in
      let now : State (Slot P O R) (View P O R) = record { words = s.words; homes = s.homes; views = views ++ newcomer v ∷ [] } in
      let word = slice_index s.words word_at in
      let others : (j : ℕ) (u : View P O R) → j ≢ id → get_elem? s.views j ≡ some u → Fits o kept.log kept.state word kept.holder (kept.made + 1) j u =
      λ j u ne e. let g = kept.each j u e in record {
        mine = g.mine;
        joining = g.joining;
        opened = g.opened;
        head = λ h. absurd (ne ((g.head h).0 ∙ sym (f.head first).0));
        holds = g.holds;
      } in
      let mine : Fits o kept.log kept.state word kept.holder (kept.made + 1) id (forked v) = record {
        mine = f.mine;
        joining = f.joining;
        opened = f.opened;
        head = λ h. ((f.head h).0, ap (λ (n : ℕ). n + 1) (f.head h).1);
        holds = f.holds;
      } in record {
        log = kept.log;
        state = kept.state;
        holder = kept.holder;
        made = kept.made + 1;
        row = kept.row;
        runs = kept.runs;
        named = named_more (kept.made + 1) (kept.made + 1 + 1) kept.log (omega arith) kept.named;
        numbers = λ k. total_snoc (times_of k) views (newcomer v) ∙ ap (λ (n : ℕ). n + times_of k (newcomer v)) (total_same (times_of k) s.views id v (forked v) at refl ∙ kept.numbers k)
            ∙ ap (λ (n : ℕ). once_below k (kept.made + 1) + (((if k == n + 1 then 1 else 0) + 0) + 0)) is ∙ (let h = once_more k (kept.made + 1) in omega arith);
        counted = total_snoc numbers_of views (newcomer v) ∙ ap (λ (n : ℕ). n + 1) (total_same numbers_of s.views id v (forked v) at refl ∙ kept.counted);
        each = λ j u e. ⊎_elim
            (λ (old : get_elem? views j ≡ some u). each_set o kept.log kept.state word kept.holder (kept.made + 1) s.views id (forked v) others mine j u old)
            (λ (new : newcomer v ≡ u). subst (λ (x : View P O R). Fits o kept.log kept.state word kept.holder (kept.made + 1) j x) new
            (newcomer_fits kept.log kept.state word kept.holder kept.made id j v f kept.named is))
            (at_snoc views (newcomer v) u j e);
        turn = ⊎_elim
            (λ (free : IsFree kept.log kept.state s). let x : IsFree kept.log kept.state now = record { word = free.word; said = free.said; home = free.home } in inl x)
            (λ (held : IsTaken kept.log kept.state kept.holder s). let x : IsTaken kept.log kept.state kept.holder now = record {
              word = held.word;
              home = held.home;
              view = held.view;
              at = at_longer views (newcomer v ∷ []) kept.holder held.view (set_else s.views id kept.holder (forked v) (not_holder kept.log kept.state kept.holder id v s held at none) ∙ held.at);
              turn = held.turn;
            } in inr x)
            kept.turn;
      }

  spent_fits : (log : List (Entry O R)) (state : P) (word holder made seat : ℕ) → Fits o log state word holder made seat (spent {P = P} {O = O} {R = R})
  spent_fits log state word holder made seat = record {
    mine = within_nothing log;
    joining = within_nothing log;
    opened = λ q e. absurd (cc);
    head = λ e. absurd (off e);
    holds = λ p e. absurd (cc);
  }

  -- the numbers of a pass go to the first
  moved : (f : View P O R → ℕ) (views : List (View P O R)) (id other : ℕ) (v w both done : View P O R) → get_elem? views id ≡ some v → get_elem? (set views id both) other ≡ some w
      → f both ≡ f v + f w → f done ≡ 0 → total f (set (set views id both) other done) ≡ total f views
  moved f views id other v w both done at there sum nil =
      let a = total_set f views id v both at in let b = total_set f (set views id both) other w done there in omega arith

  -- what another pass knew is put beside what the first knows
  pub joins_first : (id : ℕ) (v : View P O R) (other : ℕ) (w : View P O R) → v.turn ≡ None → v.joining ≡ nothing → w.turn ≡ None → w.joining ≡ nothing
      → Joins (Kept may o) id v other w (beside v w) spent
  joins_first id v other w none bare gone empty s kept at ne there =
      let f = kept.each id v at in
      let was : get_elem? s.views other ≡ some w = sym (set_else s.views id other (beside v w) ne) ∙ there in
      let g = kept.each other w was in
      let views = set (set s.views id (beside v w)) other spent in
      let now : State (Slot P O R) (View P O R) = record { words = s.words; homes = s.homes; views = views } in
      let word = slice_index s.words word_at in
      let nv : (k : ℕ) → times k v.joining.owned ≡ 0 = λ k. ap (λ h. times k h.owned) bare in
      let nw : (k : ℕ) → times k w.joining.owned ≡ 0 = λ k. ap (λ h. times k h.owned) empty in
      let lv : length v.joining.owned ≡ 0 = ap (λ h. length h.owned) bare in
      let lw : length w.joining.owned ≡ 0 = ap (λ h. length h.owned) empty in
      let both : Fits o kept.log kept.state word kept.holder kept.made id (beside v w) =
      record { mine = f.mine; joining = g.mine; opened = f.opened; head = f.head; holds = f.holds } in record {
        log = kept.log;
        state = kept.state;
        holder = kept.holder;
        made = kept.made;
        row = kept.row;
        runs = kept.runs;
        named = kept.named;
        numbers = λ k. moved (times_of k) s.views id other v w (beside v w) spent at there (let a = nv k in let b = nw k in omega arith) refl ∙ kept.numbers k;
        counted = moved numbers_of s.views id other v w (beside v w) spent at there (omega arith) refl ∙ kept.counted;
        each = each_set o kept.log kept.state word kept.holder kept.made (set s.views id (beside v w)) other spent
            (λ j u _ e. each_set o kept.log kept.state word kept.holder kept.made s.views id (beside v w) (λ i x _ d. kept.each i x d) both j u e)
            (spent_fits kept.log kept.state word kept.holder kept.made other);
        turn = ⊎_elim
            (λ (free : IsFree kept.log kept.state s). let x : IsFree kept.log kept.state now = record { word = free.word; said = free.said; home = free.home } in inl x)
            (λ (held : IsTaken kept.log kept.state kept.holder s). let x : IsTaken kept.log kept.state kept.holder now = record {
              word = held.word;
              home = held.home;
              view = held.view;
              at = set_else (set s.views id (beside v w)) other kept.holder spent (not_holder kept.log kept.state kept.holder other w s held was gone)
                  ∙ set_else s.views id kept.holder (beside v w) (not_holder kept.log kept.state kept.holder id v s held at none) ∙ held.at;
              turn = held.turn;
            } in inr x)
            kept.turn;
      }

  -- two halves of one view have no number in common
  halves_apart : (views : List (View P O R)) (made id : ℕ) (v : View P O R) → ((k : ℕ) → total (times_of k) views ≡ once_below k made) → get_elem? views id ≡ some v
      → (n : ℕ) → has v.mine.owned n ≡ true → has v.joining.owned n ≡ true → ⊥
  halves_apart views made id v once at n a b =
      let x = has_times v.mine.owned n a in let y = has_times v.joining.owned n b in let z = total_one (times_of n) views id v at in let u = once n in let t = once_at_most n made in omega arith

  settle_kept : (id : ℕ) (v : View P O R) (s : State (Slot P O R) (View P O R)) → Kept may o s → get_elem? s.views id ≡ some v → v.turn ≡ None
      → Kept may o (record { words = s.words; homes = s.homes; views = set s.views id (settled v) })
  settle_kept id v s kept at none =
      let f = kept.each id v at in
      let now : State (Slot P O R) (View P O R) = record { words = s.words; homes = s.homes; views = set s.views id (settled v) } in
      let word = slice_index s.words word_at in
      let both = within_both kept.log v.mine v.joining f.mine f.joining (halves_apart s.views (kept.made + 1) id v kept.numbers at) in
      let mine : Fits o kept.log kept.state word kept.holder kept.made id (settled v) = record {
        mine = both.0;
        joining = within_nothing kept.log;
        opened = λ q e. ((f.opened q e).0, has-append v.mine.owned v.joining.owned v.number ∙ ap (λ (b : Bool). b || has v.joining.owned v.number) (f.opened q e).1);
        head = f.head;
        holds = λ p e. absurd (let z : Some p ≡ None = sym e ∙ none in cc);
      } in record {
        log = kept.log;
        state = kept.state;
        holder = kept.holder;
        made = kept.made;
        row = kept.row;
        runs = kept.runs;
        named = kept.named;
        numbers = λ k. total_same (times_of k) s.views id v (settled v) at (omega (arith, times-append k v.mine.owned v.joining.owned)) ∙ kept.numbers k;
        counted = total_same numbers_of s.views id v (settled v) at (omega (arith, length-append v.mine.owned v.joining.owned)) ∙ kept.counted;
        each = each_set o kept.log kept.state word kept.holder kept.made s.views id (settled v) (λ j u _ e. kept.each j u e) mine;
        turn = ⊎_elim
            (λ (free : IsFree kept.log kept.state s). let x : IsFree kept.log kept.state now = record { word = free.word; said = free.said; home = free.home } in inl x)
            (λ (held : IsTaken kept.log kept.state kept.holder s). let x : IsTaken kept.log kept.state kept.holder now = record {
              word = held.word;
              home = held.home;
              view = held.view;
              at = set_else s.views id kept.holder (settled v) (not_holder kept.log kept.state kept.holder id v s held at none) ∙ held.at;
              turn = held.turn;
            } in inr x)
            kept.turn;
      }

  -- a load puts the two halves together
  pub settles : (slots id : ℕ) (m : Me (Slot P O R) (View P O R)) → m.0.turn ≡ None → Allows (Kept may o) slots id m word_at (λ n. n) (looked (step slots word_at 0 0 mathlib.Core.Option.none) m)
  settles slots id m none s kept long at small =
      let v = m.0 in
      let f = kept.each id v at in
      let both = within_both kept.log v.mine v.joining f.mine f.joining (halves_apart s.views (kept.made + 1) id v kept.numbers at) in
      let front = longer_front kept.log v.mine v.joining f.mine f.joining in
      let one = total_one numbers_of s.views id v at in (
        settled v,
        keeps,
        tt,
        subst (λ (ws : List ℕ). Kept may o (record { words = ws; homes = s.homes; views = set s.views id (settled v) })) (sym (word_same s.words)) (settle_kept id v s kept at none),
        (
          refl,
          record {
            this = front.2;
            that = front.3;
            own = both.1;
            room = λ first. let made = (f.head first).1 in let all = kept.counted in omega arith;
          },
        ),
      )

  -- the first pass owns every number, so no other has the turn, and every call is its own
  pub closes : (id : ℕ) (v : View P O R) (s : State (Slot P O R) (View P O R)) → Seen (Kept may o) id v s → v.first ≡ true → IsIdle v → (v.made + 1) - length v.mine.owned ≡ 0
      → (state : P) × (said : Option (Said O R)) × (s.homes ≡ some (slot (Some state) said) ∷ []) × StandsFor may o (calls v.mine.seen) state × (v.mine.own ≡ calls v.mine.seen)
  closes id v s so first idle none =
      let kept = so.0 in
      let at = so.1 in
      let f = kept.each id v at in
      let made : v.made ≡ kept.made = (f.head first).1 in
      let bare : length v.joining.owned ≡ 0 = ap (λ h. length h.owned) idle.joining in
      let others : (j : ℕ) (u : View P O R) → j ≢ id → get_elem? s.views j ≡ some u → numbers_of u ≡ 0 =
      λ j u ne e. let two = total_two numbers_of s.views id j v u ne at e in let all = kept.counted in omega arith in
      let alone : (k : ℕ) → total (times_of k) s.views ≡ times_of k v =
      λ k. total_only (times_of k) s.views id v at (λ j u ne e. let z = others j u ne e in let a = times_short k u.mine.owned in let b = times_short k u.joining.owned in omega arith) in
      let owns : (k : ℕ) → k < kept.made + 1 → has v.mine.owned k ≡ true =
      λ k h. times_has v.mine.owned k (let a = alone k in let b = kept.numbers k in let c = once_yes k (kept.made + 1) h in let d = times_short k v.joining.owned in omega arith) in
      let named = subst (NamesBelow (kept.made + 1)) f.mine.split kept.named in
      let rest : f.mine.after ≡ [] =
      calls_none f.mine.after (sym (of_all v.mine.owned (kept.made + 1) f.mine.after (named_after (kept.made + 1) v.mine.seen f.mine.after named) owns) ∙ f.mine.foreign) in
      let whole : kept.log ≡ v.mine.seen = f.mine.split ∙ ap (λ l. v.mine.seen ++ l) rest ∙ append-nil v.mine.seen in
      let free : IsFree kept.log kept.state s = ⊎_elim
      (λ (x : IsFree kept.log kept.state s). x)
      (λ (held : IsTaken kept.log kept.state kept.holder s).
      let ne = not_holder kept.log kept.state kept.holder id v s held at idle.turn in
      let g = kept.each kept.holder held.view held.at in
      let mine = (g.opened o ((g.holds kept.state held.turn).4)).1 in
      let a = has_times held.view.mine.owned held.view.number mine in
      let b = times_short held.view.number held.view.mine.owned in
      let c = others kept.holder held.view ne held.at in
      absurd (omega arith))
      kept.turn in (
        kept.state,
        free.said,
        free.home,
        subst (λ (l : List (Entry O R)). StandsFor may o (calls l) kept.state) whole kept.runs,
        f.mine.listed ∙ of_all v.mine.owned (kept.made + 1) v.mine.seen (named_before (kept.made + 1) v.mine.seen f.mine.after named) owns,
      )

  -- the slot that a closed table gives back has the part
  pub closed : (id : ℕ) (v : View P O R) (words : List ℕ) (slots : List (Slot P O R)) (found : Slot P O R) → Final (Seen (Kept may o) id v) words slots → get_elem? slots 0 ≡ some found
      → v.first ≡ true → IsIdle v → (v.made + 1) - length v.mine.owned ≡ 0
      → (state : P) × (found.part ≡ Some state) × StandsFor may o (calls v.mine.seen) state × (v.mine.own ≡ calls v.mine.seen)
  closed id v words slots found final there first idle none =
      let c = closes id v final.0 final.1 first idle none in
      let home : get_elem? slots 0 ≡ some (slot (Some c.0) c.1) = final.4 0 (slot (Some c.0) c.1) (ap (λ (hs : List (mathlib.Core.Option.Option (Slot P O R))). get_elem? hs 0) c.2) in
      let same : found ≡ slot (Some c.0) c.1 = some-injective found (slot (Some c.0) c.1) (sym there ∙ home) in
      (c.0, ap (λ (x : Slot P O R). x.part) same, c.3, c.4)

  -- the part that is given back stands for what the pass has seen
  pub closed_runs : (first : P) (k j : Known (View P O R)) (state part : P) → o ≡ first → k ≡ j → Some state ≡ Some part → StandsFor may o (seen k) state → StandsFor may first (seen j) part
  closed_runs first k j state part same still is runs =
      let there : state ≡ part = cc in
      subst (λ (x : P). StandsFor may first (seen j) x) there
      (subst (λ (x : Known (View P O R)). StandsFor may first (seen x) state) still (subst (λ (x : P). StandsFor may x (seen k) state) same runs))
