-- The kinds of step of a turn: what each does to the view of the pass that makes it, and what it tells.
use Rattle.std.specs.Prelude.{◌≡◌, ◌≢◌, ℕ, ◌+◌, ◌*◌, ◌≤◌, nat_lt, true, false, if◌then◌else◌, List, [], ◌∷◌, ◌++◌, length, Option, Some, None}
use Rattle.atomic_table.specs.Table.{Me, Step, rest}
use Rattle.qs_turn.specs.declared.view.Entry.{Entry}
use Rattle.qs_turn.specs.declared.view.Said.{Said}
use Rattle.qs_turn.specs.declared.view.Slot.{Slot}
use Rattle.qs_turn.specs.declared.view.Half.{Half}
use Rattle.qs_turn.specs.declared.view.View.{View}
use Rattle.qs_part.specs.Histories.{call, StandsFor}
use Rattle.qs_turn.specs.Orders.{StartsWith, Merges}
use Rattle.qs_turn.specs.Rule.{of, calls, half, nothing, slot}

-- take: the pass has the turn, and has seen the whole history
abbrev pub with_turn : {P O R : Type 0} → View P O R → List (Entry O R) → P → View P O R
with_turn v log state = record v { turn = Some state; mine = half v.mine.owned log v.mine.own }

-- what a take tells: the number found is twice the length of a history, which begins with what was seen and leads to
-- the part that comes out of the slot
pub record Took {P O R : Type 0} (may : P → O → R → P → Type 0) (o : P) (found : ℕ)
    (m m' : Me (Slot P O R) (View P O R)) : Type 0 where
  pub log : List (Entry O R)
  pub state : P
  pub said : Option (Said O R)
  pub view : m'.0 ≡ with_turn m.0 log state
  pub out : m'.1 ≡ (0, slot (Some state) said) ∷ m.1
  pub even : found ≡ 2 * length log
  pub more : StartsWith log m.0.mine.seen
  pub runs : StandsFor may o (calls log) state

abbrev pub taken : {P O R : Type 0} → (P → O → R → P → Type 0) → Step (Slot P O R) → Me (Slot P O R) (View P O R) →
    ℕ → Me (Slot P O R) (View P O R) → Type 0
taken {P} may st m found m' =
    (found ≢ st.first → m' ≡ m) × ((o : P) → m.0.opening ≡ Some o → found ≡ st.first → Took may o found m m')

-- give: the pass hasn't the turn any more, and its call is the last that it has seen and made
abbrev pub added : {P O R : Type 0} → View P O R → ℕ → O → R → View P O R
added v q a r = record v {
  turn = None;
  mine = half v.mine.owned (v.mine.seen ++ record { by = v.number; call = call q a r } ∷ [])
      (v.mine.own ++ call q a r ∷ []);
}

-- what is said in the slot that is out
abbrev pub said_of : {P O R : Type 0} → List (ℕ × Slot P O R) → Option (Said O R)
said_of [] = None
said_of (x ∷ xs) = x.1.said

abbrev pub given : {P O R : Type 0} → Step (Slot P O R) → Me (Slot P O R) (View P O R) → ℕ →
    Me (Slot P O R) (View P O R) → Type 0
given {P} {O} {R} st m found m' =
    (said : Said O R) → said_of m.1 ≡ Some said → m' ≡ (added m.0 said.request said.op.value said.reply.value, rest m.1)

-- split: one more pass was made, which has that number, and has seen what the first has
abbrev pub forked : {P O R : Type 0} → View P O R → View P O R
forked v = record v { made = v.made + 1 }

abbrev pub newcomer : {P O R : Type 0} → View P O R → View P O R
newcomer v = record {
  first = false;
  made = 0;
  number = v.made + 1;
  opening = v.opening;
  turn = None;
  mine = half ((v.made + 1) ∷ []) v.mine.seen [];
  joining = nothing;
}

-- join: the other's half is put beside, and the other is spent
abbrev pub beside : {P O R : Type 0} → View P O R → View P O R → View P O R
beside v w = record v { joining = w.mine }

abbrev pub spent : {P O R : Type 0} → View P O R
spent = record { first = false; made = 0; number = 0; opening = None; turn = None; mine = nothing; joining = nothing }

abbrev pub longer : {A : Type 0} → List A → List A → List A
longer xs ys = if nat_lt (length xs) (length ys) then ys else xs

-- look: the two halves are put together
abbrev pub both_halves : {O R : Type 0} → Half O R → Half O R → Half O R
both_halves h k = half (h.owned ++ k.owned) (longer h.seen k.seen) (of (h.owned ++ k.owned) (longer h.seen k.seen))

abbrev pub settled : {P O R : Type 0} → View P O R → View P O R
settled v = record v { mine = both_halves v.mine v.joining; joining = nothing }

-- what a look tells: the longer history begins with both, and the own calls are those of both
pub record Settled {P O R : Type 0} (v : View P O R) : Type 0 where
  pub this : StartsWith (longer v.mine.seen v.joining.seen) v.mine.seen
  pub that : StartsWith (longer v.mine.seen v.joining.seen) v.joining.seen
  pub own : Merges v.mine.own v.joining.own (settled v).mine.own
  pub room : v.first ≡ true → length v.mine.owned + length v.joining.owned ≤ v.made + 1

abbrev pub looked : {P O R : Type 0} → Step (Slot P O R) → Me (Slot P O R) (View P O R) → ℕ →
    Me (Slot P O R) (View P O R) → Type 0
looked st m found m' = (m' ≡ (settled m.0, m.1)) × Settled m.0

-- the pass has the turn: the word was twice the length of a history that begins with what it had seen, and the part is
-- out of the slot and stands for that history
pub record HasTurn {P O R : Type 0} (may : P → O → R → P → Type 0) (o : P) (word : ℕ) (part : P) (v : View P O R)
    (m' : Me (Slot P O R) (View P O R)) : Type 0 where
  pub log : List (Entry O R)
  pub view : m'.0 ≡ with_turn v log part
  pub out : m'.1 ≡ (0, slot None None) ∷ []
  pub even : word ≡ 2 * length log
  pub more : StartsWith log v.mine.seen
  pub runs : StandsFor may o (calls log) part

-- the pass may give the turn back with this part: the part's step was one that may be
pub record CanGive {P O R : Type 0} (may : P → O → R → P → Type 0) (word : ℕ) (part : P) (said : Said O R)
    (m : Me (Slot P O R) (View P O R)) : Type 0 where
  pub before : P
  pub turn : m.0.turn ≡ Some before
  pub out : m.1 ≡ (0, slot None None) ∷ []
  pub step : may before said.op.value said.reply.value part
  pub even : word ≡ 2 * length m.0.mine.seen
