-- What a stream holds between its sides.
use Rattle.std.specs.Prelude.{ℕ, List, []}
use Rattle.qs_stream.specs.declared.state.State.{State}
use Rattle.qs_stream.specs.declared.state.State.TheVariants.{Open}

-- the bytes that were read and wait, those that wait to be written, and whether a side failed
pub record Buffers : Type 0 where
  pub waiting : List ℕ
  pub held : List ℕ
  pub state : State

abbrev pub new_buffers : Buffers
new_buffers = record { waiting = []; held = []; state = Open }
