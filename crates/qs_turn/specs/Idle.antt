-- A pass between two calls.
use Rattle.std.specs.Prelude.{◌≡◌, ◌+◌, ◌≤◌, true, false, length, None}
use Rattle.qs_turn.specs.declared.view.View.{View}
use Rattle.qs_turn.specs.Rule.{nothing}

-- the pass hasn't the turn and isn't being joined; another than the first has one number, the first no more than were
-- made
pub record IsIdle {P O R : Type 0} (v : View P O R) : Type 0 where
  pub turn : v.turn ≡ None
  pub joining : v.joining ≡ nothing
  pub alone : v.first ≡ false → length v.mine.owned ≡ 1
  pub room : v.first ≡ true → length v.mine.owned ≤ v.made + 1
