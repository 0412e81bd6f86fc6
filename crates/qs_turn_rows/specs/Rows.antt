-- Rows: lists whose members at one place belong together.
use Rattle.std.specs.Prelude.{◌≡◌, ℕ, ◌+◌, true, false, List, [], ◌∷◌, ◌++◌, length, slice_get, Some}
use Rattle.std.specs.List.{slice_set}
use Rattle.qs_turn.specs.declared.view.View.{View}
use Rattle.std.specs.declared.snapshot.Snapshot.{Snapshot}
use Rattle.qs_part.specs.Histories.{StandsFor}
use Rattle.qs_turn.specs.Names.{Name, Known}
use Rattle.qs_turn.specs.Words.{opening, is_first, seen, own, out, IsPassOf, Calls, Joined}

-- two rows are as long, and the members at each place belong together
pub record Pairs {A B : Type 0} (Rel : A → B → Type 0) (xs : List A) (ys : List B) : Type 0 where
  pub long : length xs ≡ length ys
  pub each : (i : ℕ) (x : A) (y : B) → slice_get xs i ≡ Some x → slice_get ys i ≡ Some y → Rel x y

-- three rows are as long, and the members at each place belong together
pub record Triples {A B C : Type 0} (Rel : A → B → C → Type 0) (xs : List A) (ys : List B) (zs : List C) : Type 0 where
  pub long : length xs ≡ length zs
  pub second_long : length ys ≡ length zs
  pub each : (i : ℕ) (x : A) (y : B) (z : C) → slice_get xs i ≡ Some x → slice_get ys i ≡ Some y →
      slice_get zs i ≡ Some z → Rel x y z

-- each member is such
abbrev pub Each : {A : Type 0} → (A → Type 0) → List A → Type 0
Each {A} Such xs = (i : ℕ) (x : A) → slice_get xs i ≡ Some x → Such x

-- a pass that is the first of its turn, and one that isn't
abbrev pub IsFirst : {P O R : Type 0} → Known (View P O R) → Type 0
IsFirst k = is_first k ≡ true

abbrev pub IsOther : {P O R : Type 0} → Known (View P O R) → Type 0
IsOther k = is_first k ≡ false

-- a first pass k is now n, after the pass g was split off
pub record Forked {P O R : Type 0} (k n g : Known (View P O R)) : Type 0 where
  pub first : is_first n ≡ true
  pub seen_stays : seen n ≡ seen k
  pub own_stays : own n ≡ own k
  pub out_rises : out n ≡ out k + 1
  pub other : is_first g ≡ false
  pub seen_given : seen g ≡ seen k
  pub own_none : own g ≡ []

-- the first pass of a turn, into which all others were joined
abbrev pub IsAlone : {P O R : Type 0} → Known (View P O R) → Type 0
IsAlone k = (is_first k ≡ true) × (out k ≡ 0)

-- a turn was closed with a pass, and this part came back: it stands for what the pass has seen, all of it its own calls
pub record Closed {P O R : Type 0} (may : P → O → R → P → Type 0) (t : Name (Snapshot P)) (k : Known (View P O R))
    (p : P) : Type 0 where
  pub stands : StandsFor may (opening t) (seen k) p
  pub whole : own k ≡ seen k

-- a pass is of the turn at a place
abbrev pub IsPassAt : {P O R : Type 0} → List (Name (Snapshot P)) → ℕ → Known (View P O R) → Type 0
IsPassAt {P} ts i k = (t : Name (Snapshot P)) → slice_get ts i ≡ Some t → IsPassOf t k

-- an operation fits the part of the turn at a place
abbrev pub FitsAt : {P O F : Type 0} → (P → F) → (F → O → Type 0) → List (Name (Snapshot P)) → ℕ → O → Type 0
FitsAt {P} fixed_of can ts i op = (t : Name (Snapshot P)) → slice_get ts i ≡ Some t → can (fixed_of (opening t)) op

-- one call was made of the turn at a place, with the pass there, and no other pass changed
pub record CalledAt {P O R : Type 0} (may : P → O → R → P → Type 0) (ts : List (Name (Snapshot P))) (i : ℕ)
    (ks : List (Known (View P O R))) (q : ℕ) (a : O) (r : R) (ns : List (Known (View P O R))) : Type 0 where
  pub turn : Name (Snapshot P)
  pub old : Known (View P O R)
  pub new : Known (View P O R)
  pub of : slice_get ts i ≡ Some turn
  pub was : slice_get ks i ≡ Some old
  pub now : ns ≡ slice_set ks i new
  pub called : Calls may (opening turn) old q a r new

-- a pass was joined into the one at a place, and no other changed
pub record JoinedAt {P O R : Type 0} (i : ℕ) (ks : List (Known (View P O R))) (other : Known (View P O R))
    (ns : List (Known (View P O R))) : Type 0 where
  pub old : Known (View P O R)
  pub new : Known (View P O R)
  pub was : slice_get ks i ≡ Some old
  pub now : ns ≡ slice_set ks i new
  pub joined : Joined old other new

-- a turn was opened at the end of a row, with this part, and its first pass, which has seen nothing and owns nothing
pub record Opened {P O R : Type 0} (ts : List (Name (Snapshot P))) (ks : List (Known (View P O R))) (part : P)
    (ts' : List (Name (Snapshot P))) (ks' : List (Known (View P O R))) : Type 0 where
  pub turn : Name (Snapshot P)
  pub pass : Known (View P O R)
  pub turns : ts' ≡ ts ++ turn ∷ []
  pub passes : ks' ≡ ks ++ pass ∷ []
  pub opens : opening turn ≡ part
  pub first : is_first pass ≡ true
  pub nothing_seen : seen pass ≡ []
  pub nothing_own : own pass ≡ []
