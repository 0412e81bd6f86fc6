-- The lines so far were made and counted, and with each one the run is nearer to its end.
use Rattle.qs_generate.specs.Nearing.{turn_rank}
use Rattle.qs_replay_generated.specs.Making.{SoFar, place}
use Rattle.qs_replay_generated.proofs.making.make_run.Given as goal

abbrev pub invariant-lines : goal.invariant-lines
invariant-lines g l = SoFar g.D.Disk.seen (place l.fn.run l.fn.live.items l.fn.desk) (place l.run l.live.items l.desk) l.counts

abbrev pub decreases-lines : goal.decreases-lines
decreases-lines g l = turn_rank l.run.turn
