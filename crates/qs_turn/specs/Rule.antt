-- The rule of a turn: what holds of its word, its slot and the views of all passes between any two steps.
use Rattle.std.specs.Prelude.{◌≡◌, ℕ, ◌+◌, ◌*◌, ◌<◌, ◌==◌, nat_lt, Bool, true, false, ◌||◌, if◌then◌else◌, ◌⊎◌, List, [], ◌∷◌, ◌++◌, map, length, slice_index, Option, Some, None}
use mathlib.Core.Option.{some, none}
use lib.ListN.{get_elem?}
use Rattle.atomic_table.specs.Table.{State}
use Rattle.qs_part.specs.Histories.{Call, StandsFor}
use Rattle.qs_turn.specs.declared.view.Entry.{Entry}
use Rattle.qs_turn.specs.declared.view.Said.{Said}
use Rattle.qs_turn.specs.declared.view.Slot.{Slot}
use Rattle.qs_turn.specs.declared.view.Half.{Half}
use Rattle.qs_turn.specs.declared.view.View.{View}

-- the place of the word, between others that are never used
abbrev pub word_at : ℕ
word_at = 8

-- a number is among these
abbrev pub has : List ℕ → ℕ → Bool
has [] k = false
has (n ∷ ns) k = (k == n) || has ns k

-- how often a number is among these
abbrev pub times : ℕ → List ℕ → ℕ
times k [] = 0
times k (n ∷ ns) = (if k == n then 1 else 0) + times k ns

-- once for each number below n, and else not at all
abbrev pub once_below : ℕ → ℕ → ℕ
once_below k n = if nat_lt k n then 1 else 0

-- a sum over all members
abbrev pub total : {A : Type 0} → (A → ℕ) → List A → ℕ
total f [] = 0
total f (x ∷ xs) = f x + total f xs

-- the calls of a history, without the numbers of the passes that made them
abbrev pub calls : {O R : Type 0} → List (Entry O R) → List (Call O R)
calls log = map (λ e. e.call) log

-- the calls of a history that were made under these numbers
abbrev pub of : {O R : Type 0} → List ℕ → List (Entry O R) → List (Call O R)
of owned [] = []
of owned (e ∷ es) = if has owned e.by then e.call ∷ of owned es else of owned es

-- each call was made under a number below n
abbrev pub NamesBelow : {O R : Type 0} → ℕ → List (Entry O R) → Type 0
NamesBelow n [] = Unit {0}
NamesBelow n (e ∷ es) = (e.by < n) × NamesBelow n es

abbrev pub half : {O R : Type 0} → List ℕ → List (Entry O R) → List (Call O R) → Half O R
half owned seen own = record { owned = owned; seen = seen; own = own }

-- no numbers and no calls
abbrev pub nothing : {O R : Type 0} → Half O R
nothing = half [] [] []

abbrev pub slot : {P O R : Type 0} → Option P → Option (Said O R) → Slot P O R
slot part said = record { part = part; said = said }

-- the first pass of a new turn: number 0, nothing seen
abbrev pub first_view : {P O R : Type 0} → P → View P O R
first_view o = record {
  first = true;
  made = 0;
  number = 0;
  opening = Some o;
  turn = None;
  mine = half (0 ∷ []) [] [];
  joining = nothing;
}

-- what was seen begins the history; the rest of it has no call of these passes; their calls are those of the history
pub record Within {O R : Type 0} (log : List (Entry O R)) (h : Half O R) : Type 0 where
  pub after : List (Entry O R)
  pub split : log ≡ h.seen ++ after
  pub foreign : of h.owned after ≡ []
  pub listed : h.own ≡ of h.owned h.seen

-- what the rule says of the view of the pass at a seat
pub record Fits {P O R : Type 0} (o : P) (log : List (Entry O R)) (state : P) (word holder made seat : ℕ)
    (v : View P O R) : Type 0 where
  pub mine : Within log v.mine
  pub joining : Within log v.joining
  pub opened : (q : P) → v.opening ≡ Some q → (q ≡ o) × (has v.mine.owned v.number ≡ true)
  pub head : v.first ≡ true → (seat ≡ 0) × (v.made ≡ made)
  pub holds : (p : P) → v.turn ≡ Some p
      → (word ≡ 2 * length log + 1) × (seat ≡ holder) × (p ≡ state) × (v.mine.seen ≡ log) × (v.opening ≡ Some o)

-- the turn is free after the calls of the history: the word is twice their number, and the part is in the slot
pub record IsFree {P O R : Type 0} (log : List (Entry O R)) (state : P)
    (s : State (Slot P O R) (View P O R)) : Type 0 where
  pub word : slice_index s.words word_at ≡ 2 * length log
  pub said : Option (Said O R)
  pub home : s.homes ≡ some (slot (Some state) said) ∷ []

-- the turn is held after the calls of the history: the word is one more, the slot is out, and the holder knows the part
pub record IsTaken {P O R : Type 0} (log : List (Entry O R)) (state : P) (holder : ℕ)
    (s : State (Slot P O R) (View P O R)) : Type 0 where
  pub word : slice_index s.words word_at ≡ 2 * length log + 1
  pub home : s.homes ≡ none ∷ []
  pub view : View P O R
  pub at : get_elem? s.views holder ≡ some view
  pub turn : view.turn ≡ Some state

-- how often a pass owns a number, and how many it owns
abbrev pub times_of : {P O R : Type 0} → ℕ → View P O R → ℕ
times_of k v = times k v.mine.owned + times k v.joining.owned

abbrev pub numbers_of : {P O R : Type 0} → View P O R → ℕ
numbers_of v = length v.mine.owned + length v.joining.owned

-- There is one history, of legal steps from the opening state o. Each number made, from 0 to `made`, is owned once, and
-- each call was made under one of them; each view fits the history
pub record Kept {P O R : Type 0} (may : P → O → R → P → Type 0) (o : P)
    (s : State (Slot P O R) (View P O R)) : Type 0 where
  pub log : List (Entry O R)
  pub state : P
  pub holder : ℕ
  pub made : ℕ
  pub row : length s.words ≡ 16
  pub runs : StandsFor may o (calls log) state
  pub named : NamesBelow (made + 1) log
  pub numbers : (k : ℕ) → total (times_of k) s.views ≡ once_below k (made + 1)
  pub counted : total numbers_of s.views ≡ made + 1
  pub each : (seat : ℕ) (v : View P O R) → get_elem? s.views seat ≡ some v
      → Fits o log state (slice_index s.words word_at) holder made seat v
  pub turn : IsFree log state s ⊎ IsTaken log state holder s
