use Rattle.std.proofs.Common.{◌≡◌, ◌+◌, ◌++◌, length, take, arith}
use Rattle.std.proofs.lemmas.List.{length-take-le}
use Rattle.qs_nbd_wire.proofs.Overlays.{take-overlay}
use Rattle.qs_nbd_handshake.proofs.Sizes.{size-grows}
use Rattle.qs_nbd_handshake.proofs.stage.fill.Goals as goal

pub returns-clause-bytes : goal.returns-clause-bytes
returns-clause-bytes c =
    let piece = take c.min-taken.result c.args.piece.now in
    let fed : length piece ≡ c.min-taken.result = length-take-le c.min-taken.result c.args.piece.now (omega (arith, c.min-taken.ensures)) in
    rw c.write_over.ensures (take-overlay c.args.buffer.now c.args.held piece _ (omega (arith, c.requires.room, c.requires.front, c.option_end-end.ensures.size, c.option_end-end.ensures.room)) (omega arith))

pub returns-clause-front : goal.returns-clause-front
returns-clause-front c =
    let piece = take c.min-taken.result c.args.piece.now in
    let fed : length piece ≡ c.min-taken.result = length-take-le c.min-taken.result c.args.piece.now (omega (arith, c.min-taken.ensures)) in
    let more : take (c.args.held + c.min-taken.result) c.write_over.new.bytes ≡ take c.args.held c.args.buffer.now ++ piece =
    rw c.write_over.ensures (take-overlay c.args.buffer.now c.args.held piece _ (omega (arith, c.requires.room, c.requires.front, c.option_end-end.ensures.size, c.option_end-end.ensures.room)) (omega arith)) in
    rw more (omega (
      arith,
      size-grows c.args.fixed (take c.args.held c.args.buffer.now) piece,
      c.min-taken.ensures,
      c.option_end-end.ensures.size,
      c.requires.front,
    ))
