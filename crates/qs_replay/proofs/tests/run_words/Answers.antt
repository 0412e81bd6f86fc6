-- The disks are those that the words name.
use Rattle.qs_replay.proofs.ZeroDisks.{named_disks}
use Rattle.qs_replay.proofs.tests.run_words.Goals as goal

pub run_replay-status-requires : goal.run_replay-status-requires
run_replay-status-requires c = λ told tells asked image. named_disks c.as_slice-words.result.now c.in_ok-disks.disks.items c.in_ok-disks.ensures told tells
