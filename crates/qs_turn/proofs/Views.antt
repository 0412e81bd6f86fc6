-- The views of all passes after one of them changed.
use Rattle.std.proofs.Common.{◌≡◌, ◌≢◌, ℕ, true, false, List, set, Some, sym, subst, ⊎_elim, arith}
use mathlib.Core.Option.{some}
use lib.ListN.{get_elem?}
use Rattle.atomic_table.proofs.Lists.{at_set}
use Rattle.qs_turn.specs.declared.view.Entry.{Entry}
use Rattle.qs_turn.specs.declared.view.View.{View}
use Rattle.qs_turn.specs.Rule.{has, once_below, total, times_of, Fits}
use Rattle.qs_turn.proofs.Sums.{total_set, total_one, total_two, has_times, times_none, once_at_most}

module _ {P O R : Type 0} (o : P) where
  -- what the rule says of all views, after a change of one
  pub each_set : (log : List (Entry O R)) (state : P) (word holder made : ℕ) (views : List (View P O R)) (id : ℕ) (w : View P O R)
      → ((j : ℕ) (v : View P O R) → j ≢ id → get_elem? views j ≡ some v → Fits o log state word holder made j v)
      → Fits o log state word holder made id w
      → (j : ℕ) (v : View P O R) → get_elem? (set views id w) j ≡ some v → Fits o log state word holder made j v
  each_set log state word holder made views id w others mine j v e =
      ⊎_elim
      (λ (x : (j ≡ id) × (w ≡ v)). subst (λ (u : View P O R). Fits o log state word holder made j u) x.1 (subst (λ (k : ℕ). Fits o log state word holder made k w) (sym x.0) mine))
      (λ (x : (j ≢ id) × (get_elem? views j ≡ some v)). others j v x.0 x.1)
      (at_set views id j w v e)

  -- a view that hasn't the turn fits whatever the word is and whoever has it
  pub fits_word : (log : List (Entry O R)) (state state' : P) (word word' holder holder' made seat : ℕ) (v : View P O R)
      → Fits o log state word holder made seat v → ((p : P) → v.turn ≡ Some p → ⊥) → Fits o log state' word' holder' made seat v
  fits_word log state state' word word' holder holder' made seat v f none = record {
    mine = f.mine;
    joining = f.joining;
    opened = f.opened;
    head = f.head;
    holds = λ p e. absurd (none p e);
  }

module _ {P O R : Type 0} where
  -- the numbers of all views stay where those of the view that changed do
  pub total_same : (f : View P O R → ℕ) (views : List (View P O R)) (id : ℕ) (v w : View P O R) → get_elem? views id ≡ some v → f w ≡ f v → total f (set views id w) ≡ total f views
  total_same f views id v w at same = let h = total_set f views id v w at in omega arith

  -- a number of one view isn't one of another
  pub apart : (views : List (View P O R)) (made i j k : ℕ) (v w : View P O R) → total (times_of k) views ≡ once_below k made → get_elem? views i ≡ some v → get_elem? views j ≡ some w → j ≢ i
      → has v.mine.owned k ≡ true → (has w.mine.owned k ≡ false) × (has w.joining.owned k ≡ false)
  apart views made i j k v w once at there ne mine =
      let two = total_two (times_of k) views i j v w ne at there in
      let most = once_at_most k made in
      let one = has_times v.mine.owned k mine in (
        times_none w.mine.owned k (omega arith),
        times_none w.joining.owned k (omega arith),
      )

  -- nor one that is being joined into the same view
  pub apart_joining : (views : List (View P O R)) (made i k : ℕ) (v : View P O R) → total (times_of k) views ≡ once_below k made → get_elem? views i ≡ some v
      → has v.mine.owned k ≡ true → has v.joining.owned k ≡ false
  apart_joining views made i k v once at mine =
      let one = total_one (times_of k) views i v at in
      let most = once_at_most k made in
      let some_time = has_times v.mine.owned k mine in
      times_none v.joining.owned k (omega arith)
