use Rattle.qs_qmp_write.proofs.write.quit.Goals as goal

pub returns-else-synced : goal.returns-else-synced
returns-else-synced c = rw c.if-synced.false c.failed.ensures
