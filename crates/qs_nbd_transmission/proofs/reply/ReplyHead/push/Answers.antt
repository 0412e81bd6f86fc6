use Rattle.std.proofs.Common.{refl, arith}
use Rattle.qs_nbd_wire.proofs.Overlays.{take-overlay}
use Rattle.qs_nbd_transmission.proofs.reply.ReplyHead.push.Goals as goal

pub returns : goal.returns
returns c =
    rw (← c.self.view_is, c.write_over.ensures, c.from.ensures)
    (take-overlay c.self.inside.bytes c.self.inside.len c.args.bytes.now _ (omega (arith, c.self.invariant.0, c.self.invariant.1)) refl)
