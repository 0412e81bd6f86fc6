-- What a call and a join tell their caller.
use Rattle.std.proofs.Common.{◌≡◌, ℕ, ◌+◌, ◌*◌, ◌≤◌, ◌⊎◌, Bool, true, false, List, [], ◌∷◌, ◌++◌, length, refl, sym, ap, ◌∙◌, subst, inl, inr, length-append, arith}
use Rattle.std.specs.Prelude.{nat_lt, if◌then◌else◌}
use Rattle.atomic_table.specs.Table.{Me}
use Rattle.atomic_table.specs.Seated.{TableId}
use Rattle.qs_part.specs.Histories.{Call, call, lawful, StandsFor}
use Rattle.qs_turn.specs.declared.view.Entry.{Entry}
use Rattle.qs_turn.specs.declared.view.Said.{Said}
use Rattle.qs_turn.specs.declared.view.Slot.{Slot}
use Rattle.qs_turn.specs.declared.view.View.{View}
use Rattle.qs_turn.specs.Orders.{StartsWith}
use Rattle.qs_turn.specs.Rule.{calls}
use Rattle.qs_turn.specs.Steps.{with_turn, HasTurn, CanGive, added, beside, settled, longer, Settled}
use Rattle.qs_turn.specs.Names.{Known}
use Rattle.qs_turn.specs.Idle.{IsIdle}
use Rattle.qs_turn.specs.Words.{is_first, Calls, Joined}
use Rattle.qs_turn.proofs.Histories.{calls_snoc, calls_starts}
use Rattle.qs_part.proofs.Histories.{stands_snoc, stands_fixed}

module _ {P O R : Type 0} (may : P → O → R → P → Type 0) (o : P) where
  told : (k : Known (View P O R)) (t : TableId) (log : List (Entry O R)) (before after : P) (q : ℕ) (a : O) (r : R)
      → StartsWith log k.view.mine.seen → StandsFor may o (calls log) before → may before a r after
      → Calls may o k q a r (record { turn = t; view = added (with_turn k.view log before) q a r })
  told k t log before after q a r more runs stepping =
      let e : Entry O R = record { by = k.view.number; call = call q a r } in
      let front = calls_starts log k.view.mine.seen more in record {
        between = front.0;
        sees = calls_snoc log e ∙ ap (λ l. l ++ call q a r ∷ []) front.1;
        owns = refl;
        before = before;
        after = after;
        led = subst (λ (l : List (Call O R)). StandsFor may o l before) front.1 runs;
        step = stepping;
        runs = subst (λ (l : List (Call O R)). StandsFor may o l after) (sym (calls_snoc log e)) (stands_snoc may o (calls log) before q a r after runs stepping);
        same_first = refl;
        same_out = refl;
      }

  -- a call: the turn was taken, the step was made, and the turn was given back with what was said
  pub call_told : (k j : Known (View P O R)) (t : TableId) (word q : ℕ) (a a' : O) (r r' : R) (before after : P) (m m' : Me (Slot P O R) (View P O R))
      → k ≡ j → HasTurn may o word before k.view m → may before a r after → a' ≡ a → r' ≡ r → m' ≡ (added m.0 q a' r', [])
      → Calls may o j q a r (record { turn = t; view = m'.0 })
  call_told k j t word q a a' r r' before after m m' same holds stepping asked replied is =
      let w : m'.0 ≡ added (with_turn k.view holds.log before) q a r =
      ap (λ (x : Me (Slot P O R) (View P O R)). x.0) is ∙ ap (λ (x : O). added m.0 q x r') asked ∙ ap (λ (x : R). added m.0 q a x) replied ∙ ap (λ (v : View P O R). added v q a r) holds.view in
      subst (λ (x : Known (View P O R)). Calls may o x q a r (record { turn = t; view = m'.0 })) same
      (subst (λ (v : View P O R). Calls may o k q a r (record { turn = t; view = v })) (sym w) (told k t holds.log before after q a r holds.more holds.runs stepping))

  -- the pass that has the turn may give it back with the part after a step that may be, where what it says is that step
  pub can_give : (word : ℕ) (before part : P) (said : Said O R) (a : O) (r : R) (v : View P O R) (m : Me (Slot P O R) (View P O R))
      → HasTurn may o word before v m → may before a r part → said.op.value ≡ a → said.reply.value ≡ r → CanGive may word part said m
  can_give word before part said a r v m has step asked replied = record {
    before = before;
    turn = ap (λ (x : View P O R). x.turn) has.view;
    out = has.out;
    step = subst (λ (x : O). may before x said.reply.value part) (sym asked) (subst (λ (x : R). may before a x part) (sym replied) step);
    even = has.even ∙ ap (λ (x : View P O R). 2 * length x.mine.seen) (sym has.view);
  }

module _ {P O R F : Type 0} (fixed_of : P → F) (can : F → O → Type 0) (legal : P → O → R → P → Type 0) where
  -- an operation that fitted the part as it was opened fits it after any history
  pub still_fits : (o : P) (cs : List (Call O R)) (s : P) (a : O) → StandsFor (lawful fixed_of can legal) o cs s → can (fixed_of o) a → can (fixed_of s) a
  still_fits o cs s a stands fits = subst (λ (f : F). can f a) (sym (stands_fixed fixed_of can legal o cs s stands)) fits

module _ {O R : Type 0} where
  longer_one : (xs ys : List (Entry O R)) → (calls (longer xs ys) ≡ calls xs) ⊎ (calls (longer xs ys) ≡ calls ys)
  longer_one xs ys = go (nat_lt (length xs) (length ys))
    where
      go : (b : Bool) → (calls (if b then ys else xs) ≡ calls xs) ⊎ (calls (if b then ys else xs) ≡ calls ys)
      go true = inr refl
      go false = inl refl

module _ {P O R : Type 0} where
  told_join : (k other : Known (View P O R)) (t : TableId) → is_first k ≡ true → is_first other ≡ false → IsIdle other.view → Settled (beside k.view other.view)
      → Joined k other (record { turn = t; view = settled (beside k.view other.view) })
  told_join k other t first second idle s =
      let one : length other.view.mine.owned ≡ 1 = idle.alone second in
      let room : length k.view.mine.owned + length other.view.mine.owned ≤ k.view.made + 1 = s.room first in record {
        longer = longer_one k.view.mine.seen other.view.mine.seen;
        this = calls_starts (longer k.view.mine.seen other.view.mine.seen) k.view.mine.seen s.this;
        that = calls_starts (longer k.view.mine.seen other.view.mine.seen) other.view.mine.seen s.that;
        both = s.own;
        same_first = refl;
        out_falls = omega (arith, length-append k.view.mine.owned other.view.mine.owned);
      }

  -- a join: the other's half was put beside, and then taken in
  pub joined_told : (k j other others : Known (View P O R)) (t : TableId) (v : View P O R) (m' : Me (Slot P O R) (View P O R)) → k ≡ j → other ≡ others
      → is_first j ≡ true → is_first others ≡ false → IsIdle other.view → v ≡ beside k.view other.view → m'.0 ≡ settled v → Settled v
      → Joined j others (record { turn = t; view = m'.0 })
  joined_told k j other others t v m' same twin first second idle is now s =
      let first' : is_first k ≡ true = ap is_first same ∙ first in
      let second' : is_first other ≡ false = ap is_first twin ∙ second in
      let w : m'.0 ≡ settled (beside k.view other.view) = now ∙ ap settled is in
      subst (λ (x : Known (View P O R)). Joined x others (record { turn = t; view = m'.0 })) same
      (subst (λ (x : Known (View P O R)). Joined k x (record { turn = t; view = m'.0 })) twin
      (subst (λ (x : View P O R). Joined k other (record { turn = t; view = x })) (sym w) (told_join k other t first' second' idle (subst Settled is s))))
