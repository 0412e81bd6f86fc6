-- The disks are those that the words name.
use Rattle.qs_replay.proofs.ZeroDisks.{named_disks}
use Rattle.qsd_replay.proofs.replay.Goals as goal

pub run_replay-status-requires : goal.run_replay-status-requires
run_replay-status-requires c = λ told tells asked image. named_disks c.args.words.now c.in-Ok.disks.items c.in-Ok.ensures told tells
