use Rattle.std.proofs.Common.{◌≡◌, ◌+◌, ◌++◌, length, take, refl, ap, sym, ◌∙◌, arith}
use Rattle.std.proofs.lemmas.List.{length-take-le, length-append, take_all}
use Rattle.qs_bytes.specs.Pieces.{overlay}
use Rattle.qs_bytes.proofs.Overlays.{length-overlay}
use Rattle.qs_nbd_wire.proofs.Overlays.{take-overlay}
use Rattle.qs_nbd_transmission.proofs.stage.fill.Goals as goal

pub returns-then-got-taken-clause-step : goal.returns-then-got-taken-clause-step
returns-then-got-taken-clause-step c structured =
    let piece = take c.min-taken.result c.args.piece.now in
    let fed : length piece ≡ c.min-taken.result = length-take-le c.min-taken.result c.args.piece.now (omega (arith, c.min-taken.ensures)) in
    let more : take (c.args.got + c.min-taken.result) c.write_into.new.bytes.items ≡ take c.args.got c.args.buffer.items ++ piece =
    rw c.write_into.ensures.items (take-overlay c.args.buffer.items c.args.got piece _ (omega (arith, c.requires.sound.1)) (omega arith)) in
    (refl, more, rw more (omega (arith, length-append (take c.args.got c.args.buffer.items) piece, length-take-le c.args.got c.args.buffer.items (omega (arith, c.requires.sound.1)), c.requires.sound.0, c.requires.sound.1, c.if-got-taken.true, c.len-size.ensures)))

pub returns-then-got-taken-clause-sound : goal.returns-then-got-taken-clause-sound
returns-then-got-taken-clause-sound c =
    let piece = take c.min-taken.result c.args.piece.now in
    let fed : length piece ≡ c.min-taken.result = length-take-le c.min-taken.result c.args.piece.now (omega (arith, c.min-taken.ensures)) in
    let same : length c.write_into.new.bytes.items ≡ length c.args.buffer.items =
    ap (λ xs. length xs) c.write_into.ensures.items ∙ length-overlay c.args.buffer.items c.args.got piece (omega (arith, c.requires.sound.1, c.if-got-taken.true, c.len-size.ensures)) in
    (same ∙ c.requires.sound.0, omega (arith, c.if-got-taken.true, c.len-size.ensures))

pub returns-clause-step : goal.returns-clause-step
returns-clause-step c structured =
    let piece = take c.min-taken.result c.args.piece.now in
    let fed : length piece ≡ c.min-taken.result = length-take-le c.min-taken.result c.args.piece.now (omega (arith, c.min-taken.ensures)) in
    let full : length c.args.buffer.items ≡ c.args.got + length piece = omega (arith, c.min-taken.ensures, c.requires.sound.1, c.if-got-taken.false, c.len-size.ensures) in
    let same : length (overlay c.args.buffer.items c.args.got piece) ≡ length c.args.buffer.items =
    length-overlay c.args.buffer.items c.args.got piece (omega arith) in
    let whole : c.of.result ≡ overlay c.args.buffer.items c.args.got piece = c.of.ensures ∙ c.write_into.ensures.items in (
      whole
          ∙ sym (take_all (length c.args.buffer.items) (overlay c.args.buffer.items c.args.got piece) (omega arith))
          ∙ take-overlay c.args.buffer.items c.args.got piece (length c.args.buffer.items) (omega (arith, c.requires.sound.1)) full,
      ap (λ xs. length xs) whole ∙ same ∙ c.requires.sound.0,
      refl,
    )
