-- A stream that had failed brings neither flags nor options.
use Rattle.std.proofs.Common.{◌≢◌, ◌<◌, [], arith}
use Rattle.std.specs.Prelude.{Option, Result, Ok, Err, IsErrAnd}
use Rattle.qs_status.specs.declared.status.Status.{Status}
use Rattle.qs_nbd_handshake.specs.declared.stage.Terms.{Terms}
use Rattle.qs_nbd_handshake.specs.Phases.{Reader, option_size}
use Rattle.qs_nbd_handshake.proofs.Sizes.{size-least}
use Rattle.qs_stream.specs.declared.state.State.TheVariants.{Open}
use Rattle.qs_stream.specs.Flows.{Flow}
use Rattle.qs_stream.proofs.Moves.{moved_none}
use Rattle.qs_opening.specs.declared.turn.Came.{Came}
use Rattle.qs_opening.specs.Openings.{ReadsFlags}
use Rattle.qs_opening.specs.Turns.{Asking}

pub asks_fault : {E : Type 0} (terms : Terms) (f : Flow) (reader : Reader) (result : Result Came E) (P : E → Type 0) → IsErrAnd result P → f.stream.state ≢ Open →
    Asking terms f result reader f
asks_fault terms f reader (Ok told) P is failed = absurd is
asks_fault terms f reader (Err e) P is failed =
    let short : 0 < option_size terms.fixed [] = omega (arith, size-least terms.fixed []) in
    record { taken = []; moved = moved_none f; comes = (short, failed) }

pub flags_fault : {E : Type 0} (f : Flow) (reader : Reader) (result : Result (Option Status) E) (P : E → Type 0) → IsErrAnd result P → f.stream.state ≢ Open →
    ReadsFlags f result reader f
flags_fault f reader (Ok told) P is failed = absurd is
flags_fault f reader (Err e) P is failed =
    let short : 0 < 4 = omega arith in
    record { taken = []; moved = moved_none f; flags = (short, failed) }
