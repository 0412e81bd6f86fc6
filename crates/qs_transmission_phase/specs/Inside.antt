-- The phase with its stream, and what its fields keep.
use Rattle.std.specs.Prelude.{◌≡◌, Option, Some, None}
use Rattle.qs_bytes.specs.declared.ask.Ask.{Ask}
use Rattle.qs_nbd_transmission.specs.Phases.{Phase, InHead, Fills, Skips}
use Rattle.qs_status.specs.declared.status.SessionEnd.{SessionEnd}
use Rattle.qs_wire_stream.specs.Pending.{WireBuffers}
use Rattle.qs_serving.specs.Steps.{Announced, NoneYet, ServingValue, Upcoming}

pub record PhaseValue (W : Type 0) : Type 0 where
  pub value : ServingValue
  pub stream : WireBuffers W

-- the WRITE whose data are awaited, if there is one
abbrev pub upcoming : Option Ask → Upcoming
upcoming None = NoneYet
upcoming (Some ask) = Announced ask

-- while the session goes on, its reader awaits a head, or the data of the WRITE that was announced
abbrev pub ReadsOn : Option SessionEnd → Phase → Option Ask → Type 0
ReadsOn (Some end) phase next = Unit {0}
ReadsOn None (InHead held) None = Unit {0}
ReadsOn None (Fills h got) (Some ask) = h.size ≡ ask.length
ReadsOn None (Skips h left) (Some ask) = h.size ≡ ask.length
ReadsOn None phase next = ⊥
