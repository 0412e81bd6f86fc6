use Rattle.qs_nbd_wire.proofs.Spelling.{short-sizes}
use Rattle.qs_nbd_wire.proofs.reply.block_size.Goals as goal

pub returns-clause-short : goal.returns-clause-short
returns-clause-short c =
    rw (c.in_ok-put32-3.ensures.ok, c.in_ok-put32-2.ensures.ok, c.in_ok-put32.ensures.ok, c.in_ok-put16.ensures.ok, c.of-payload.ensures, c.new.ensures.items)
    short-sizes
