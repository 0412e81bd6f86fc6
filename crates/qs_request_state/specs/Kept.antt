-- The pads of a request as one buffer keeps them.
use Rattle.std.specs.Prelude.{ℕ, []}
use Rattle.qs_model.specs.Requests.{Pads}

-- the bytes of a block, and the pads
pub record KeptPads : Type 0 where
  pub align : ℕ
  pub pads : Pads

abbrev pub no_pads : ℕ → KeptPads
no_pads A = record { align = A; pads = record { head = []; tail = [] } }
