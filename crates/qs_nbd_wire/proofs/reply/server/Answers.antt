use Rattle.qs_nbd_wire.proofs.Spelling.{short-server}
use Rattle.qs_nbd_wire.proofs.reply.server.Goals as goal

pub returns-clause-short : goal.returns-clause-short
returns-clause-short c =
    rw (c.in_ok-append.ensures.ok, c.in_ok-put32.ensures.ok, c.of-payload.ensures, c.new.ensures.items, c.as_slice-text.ensures.bytes)
    (short-server c.args.name.now c.as_slice-text.ensures.name.0)
