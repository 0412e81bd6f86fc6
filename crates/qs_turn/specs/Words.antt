-- What contracts say of turns and passes.
use Rattle.std.specs.Prelude.{◌≡◌, ℕ, ◌+◌, ◌-◌, Bool, ◌⊎◌, List, [], ◌∷◌, ◌++◌, length, Some}
use Rattle.std.specs.declared.snapshot.Snapshot.{Snapshot}
use Rattle.qs_part.specs.Histories.{Call, call, StandsFor}
use Rattle.qs_turn.specs.declared.view.View.{View}
use Rattle.qs_turn.specs.Orders.{StartsWith, Merges}
use Rattle.qs_turn.specs.Rule.{calls}
use Rattle.qs_turn.specs.Names.{Name, Known}

-- the state that the turn was made with
abbrev pub opening : {P : Type 0} → Name (Snapshot P) → P
opening t = t.key.value

-- whether it is the first pass of its turn
abbrev pub is_first : {P O R : Type 0} → Known (View P O R) → Bool
is_first k = k.view.first

-- the history that the pass has seen
abbrev pub seen : {P O R : Type 0} → Known (View P O R) → List (Call O R)
seen k = calls k.view.mine.seen

-- the calls of that history that are its own: those that it made, or that passes made which were joined into it
abbrev pub own : {P O R : Type 0} → Known (View P O R) → List (Call O R)
own k = k.view.mine.own

-- of the first pass: how many passes were split off and not joined back
abbrev pub out : {P O R : Type 0} → Known (View P O R) → ℕ
out k = (k.view.made + 1) - length k.view.mine.owned

-- the pass is of this turn
abbrev pub IsPassOf : {P O R : Type 0} → Name (Snapshot P) → Known (View P O R) → Type 0
IsPassOf t k = (k.turn ≡ t.table) × (k.view.opening ≡ Some (opening t))

-- One call was made with a pass, by steps from the opening state o that may be: the pass has seen more, the last of it
-- this call, and the call is one more of its own
pub record Calls {P O R : Type 0} (may : P → O → R → P → Type 0) (o : P) (k : Known (View P O R)) (q : ℕ) (a : O)
    (r : R) (n : Known (View P O R)) : Type 0 where
  pub between : List (Call O R)
  pub sees : seen n ≡ (seen k ++ between) ++ call q a r ∷ []
  pub owns : own n ≡ own k ++ call q a r ∷ []
  pub before : P
  pub after : P
  pub led : StandsFor may o (seen k ++ between) before
  pub step : may before a r after
  pub runs : StandsFor may o (seen n) after
  pub same_first : is_first n ≡ is_first k
  pub same_out : out n ≡ out k

-- A pass was joined into another, which keeps the longer history; that begins with both, and the own calls are those
-- of both
pub record Joined {P O R : Type 0} (k other n : Known (View P O R)) : Type 0 where
  pub longer : (seen n ≡ seen k) ⊎ (seen n ≡ seen other)
  pub this : StartsWith (seen n) (seen k)
  pub that : StartsWith (seen n) (seen other)
  pub both : Merges (own k) (own other) (own n)
  pub same_first : is_first n ≡ is_first k
  pub out_falls : out n + 1 ≡ out k
