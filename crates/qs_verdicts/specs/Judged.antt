-- The laws that judge a run, together.
use Rattle.std.specs.Prelude.{ℕ, List}
use Rattle.qs_model.specs.Acts.{Element}
use Rattle.qs_model.specs.Worlds.{World}
use Rattle.qs_verdicts.specs.Kept.{AlwaysKept}
use Rattle.qs_verdicts.specs.Verdicts.{Own, OwnBytes, Verdicts}

-- each answer is the table's, each step and each byte is a client's own, and what the core keeps holds at every
-- position
pub record Judged (A : ℕ) (w : World) (es : List Element) : Type 0 where
  pub verdicts : Verdicts A es
  pub own : Own A es
  pub own_bytes : OwnBytes A es
  pub kept : AlwaysKept A w es
