-- Calls of a turn that holds a tally.
use Rattle.std.specs.Prelude.{◌≡◌, ℕ, ◌+◌, length}
use Rattle.std.specs.declared.snapshot.Snapshot.{Snapshot}
use Rattle.qs_turn.specs.declared.view.View.{View}
use Rattle.qs_turn.specs.Names.{Name, Known}
use Rattle.qs_turn.specs.Words.{own, out, is_first, IsPassOf}
use Rattle.qs_turn_uses.specs.declared.tally.Tally.{Tally}

-- n calls were made with a pass, and nothing else
pub record Ticked (t : Name (Snapshot Tally)) (n : ℕ) (k j : Known (View Tally (Unit {0}) ℕ)) : Type 0 where
  pub turn : IsPassOf t j
  pub made : length (own j) ≡ length (own k) + n
  pub same_first : is_first j ≡ is_first k
  pub same_out : out j ≡ out k
