-- The handshake's own fields: the buffer, of which some front is held, and the stage.
use Rattle.std.specs.Prelude.{ℕ, ◌<◌, Bool, List, take}
use Rattle.qs_nbd_handshake.specs.declared.stage.Stage.{Stage}
use Rattle.qs_nbd_handshake.specs.declared.stage.Stage.TheVariants as stage
use Rattle.qs_nbd_handshake.specs.declared.stage.Terms.{Terms}
use Rattle.qs_nbd_handshake.specs.Phases.{Phase, InFlags, InOption, Asked, Over, Stuck, Reader, option_size}

-- what a stage means, beside the buffer's bytes
abbrev pub phase_of : List ℕ → Stage → Phase
phase_of buffer (stage.Flags held) = InFlags (take held buffer)
phase_of buffer (stage.Option held) = InOption (take held buffer)
phase_of buffer (stage.Asked w) = Asked w
phase_of buffer (stage.Over how) = Over how
phase_of buffer (stage.Stuck bad) = Stuck bad

abbrev pub reader_of : Terms → List ℕ → Stage → Reader
reader_of terms buffer s = record { terms = terms; phase = phase_of buffer s }

-- what every handshake's fields keep: less than a message is held
abbrev pub IsSound : Bool → List ℕ → Stage → Type 0
IsSound fixed buffer (stage.Flags held) = held < 4
IsSound fixed buffer (stage.Option held) = held < option_size fixed (take held buffer)
IsSound fixed buffer other = Unit {0}
