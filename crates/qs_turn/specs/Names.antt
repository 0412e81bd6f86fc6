-- What contracts see of a turn and of a pass.
use Rattle.atomic_table.specs.Seated.{TableId}

-- a turn: which table it is, and what its rule was told when it was made
pub record Name (K : Type 0) : Type 0 where
  pub table : TableId
  pub key : K

-- a pass: the turn that it is of, and what it knows
pub record Known (V : Type 0) : Type 0 where
  pub turn : TableId
  pub view : V
