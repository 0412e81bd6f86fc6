use Rattle.qs_nbd_handshake.proofs.Going.{goes_on}
use Rattle.qs_nbd_handshake.proofs.tests.hear.Goals as goal

pub answer-requires : goal.answer-requires
answer-requires c told can = goes_on.wanted _ _ _ _ told (rw c.in-Wanted.is at c.requires.1.1) can

pub returns-in-Flags : goal.returns-in-Flags
returns-in-Flags c stays = goes_on.flags _ _ _ _ (rw c.in-Flags.is at c.requires.1.1)
