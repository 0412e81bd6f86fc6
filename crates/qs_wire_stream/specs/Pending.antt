-- What a stream over a wire holds.
use Rattle.std.specs.Prelude.{ℕ, List}

-- bytes that wait to be written, and how many more there is room for
pub record GatheredBytes : Type 0 where
  pub held : List ℕ
  pub room : ℕ

-- a wire, the bytes that were read of it and wait, those that wait to be written, and for how many more there is room
pub record WireBuffers (W : Type 0) : Type 0 where
  pub wire : W
  pub waiting : List ℕ
  pub held : List ℕ
  pub room : ℕ
