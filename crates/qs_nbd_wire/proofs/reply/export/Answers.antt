use Rattle.qs_nbd_wire.proofs.Spelling.{short-export}
use Rattle.qs_nbd_wire.proofs.reply.export.Goals as goal

pub returns-clause-short : goal.returns-clause-short
returns-clause-short c =
    rw (c.in_ok-put16-2.ensures.ok, c.in_ok-put64.ensures.ok, c.in_ok-put16.ensures.ok, c.of-payload.ensures, c.new.ensures.items)
    (short-export c.args.size c.args.flags)
