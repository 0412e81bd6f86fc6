-- Links and wires in memory.
use Rattle.std.specs.Prelude.{Bool, true, false}
use Rattle.qs_outside.specs.Streams.{Incoming, Outgoing, Calls, made_well, made_badly}

-- the two directions of a link
pub record TwoWay : Type 0 where
  pub incoming : Incoming
  pub outgoing : Outgoing

-- a link as a wire, and which of its tries find it not ready; `faults` of these tries is how often it wasn't
pub record Wired (L : Type 0) : Type 0 where
  pub link : L
  pub tries : Calls

-- the calls after one more, which was one of the chosen ones or not
abbrev pub after_try : Bool → Calls → Calls
after_try true calls = made_badly calls
after_try false calls = made_well calls
