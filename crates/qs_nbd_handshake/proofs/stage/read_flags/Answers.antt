use Rattle.std.proofs.Common.{◌≡◌, ℕ, ◌+◌, List, ◌++◌, length, take, ap, sym, ◌∙◌, arith}
use Rattle.std.proofs.lemmas.List.{length-take-le, length-append}
use Rattle.qs_bytes.specs.Numbers.{number32}
use Rattle.qs_nbd_wire.specs.Greetings.{flags_of}
use Rattle.qs_nbd_wire.proofs.Widths.{number32-take}
use Rattle.qs_nbd_handshake.specs.Phases.{Reader, InFlags, behind_flags, flags_event}
use Rattle.qs_nbd_wire.proofs.Overlays.{take-overlay}
use Rattle.qs_nbd_handshake.proofs.stage.read_flags.Goals as goal

pub returns-then-held-taken-lt-FLAGS_BYTES-clause-step : goal.returns-then-held-taken-lt-FLAGS_BYTES-clause-step
returns-then-held-taken-lt-FLAGS_BYTES-clause-step c =
    let piece = take c.min-taken.result c.args.piece.now in
    let fed : length piece ≡ c.min-taken.result = length-take-le c.min-taken.result c.args.piece.now (omega (arith, c.min-taken.ensures)) in
    let more : take (c.args.held + c.min-taken.result) c.write_over.new.bytes ≡ take c.args.held c.args.buffer.now ++ piece =
    rw c.write_over.ensures (take-overlay c.args.buffer.now c.args.held piece _ (omega (arith, c.requires.room, c.requires.sound)) (omega arith)) in
    let held : List ℕ → Reader = λ xs. record { terms = c.args.terms; phase = InFlags xs } in (
      omega (
        arith,
        c.if-held-taken-lt-FLAGS_BYTES.true,
        fed,
        length-append (take c.args.held c.args.buffer.now) piece,
        length-take-le c.args.held c.args.buffer.now (omega (arith, c.requires.room, c.requires.sound)),
      ),
      ap held more,
    )

pub returns-clause-step : goal.returns-clause-step
returns-clause-step c =
    let piece = take c.min-taken.result c.args.piece.now in
    let fed : length piece ≡ c.min-taken.result = length-take-le c.min-taken.result c.args.piece.now (omega (arith, c.min-taken.ensures)) in
    let all : c.args.held + c.min-taken.result ≡ 4 = omega (arith, c.if-held-taken-lt-FLAGS_BYTES.false, c.min-taken.ensures, c.requires.sound) in
    let whole : take 4 c.write_over.new.bytes ≡ take c.args.held c.args.buffer.now ++ piece =
    rw c.write_over.ensures (take-overlay c.args.buffer.now c.args.held piece 4 (omega (arith, c.requires.room, c.requires.sound)) (omega arith)) in
    let flags : number32 (take c.args.held c.args.buffer.now ++ piece) 0 ≡ number32 c.write_over.new.bytes 0 =
    ap (λ xs. number32 xs 0) (sym whole) ∙ number32-take c.write_over.new.bytes 4 (omega arith) in
    rw c.end_flags.ensures.taken (rw c.end_flags.ensures.event (
      omega (
        arith,
        fed,
        all,
        length-append (take c.args.held c.args.buffer.now) piece,
        length-take-le c.args.held c.args.buffer.now (omega (arith, c.requires.room, c.requires.sound)),
      ),
      ap (λ n. flags_event n (flags_of n)) (sym flags),
      c.end_flags.ensures.behind ∙ ap (λ n. behind_flags c.args.terms n (flags_of n)) (sym flags),
    ))
