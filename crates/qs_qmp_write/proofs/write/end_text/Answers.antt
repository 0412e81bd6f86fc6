use Rattle.qs_qmp_write.proofs.write.end_text.Goals as goal

pub returns-in-Memory : goal.returns-in-Memory
returns-in-Memory c = rw c.in-Memory.is c.failed-in-Memory.ensures
