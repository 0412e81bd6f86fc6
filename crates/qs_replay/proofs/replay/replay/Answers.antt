-- One line more, and the end.
use Rattle.std.proofs.Common.{◌+◌, arith}
use Rattle.qs_status.specs.declared.status.Status.TheVariants.{Spent}
use Rattle.qs_replay.specs.Scripts.{status_of}
use Rattle.qs_replay.proofs.Replaying.{closes, closes_spent, finished, so_far_more, so_far_none}
use Rattle.qs_replay.proofs.Running.{so_far_at}
use Rattle.qs_replay.proofs.replay.replay.Goals as goal

pub loop-n-init : goal.loop-n-init
loop-n-init g c = record { so_far = so_far_none g.D.Disk.seen _ c.requires.ongoing; empty = c.requires.empty }

pub loop-n-preserved : goal.loop-n-preserved
loop-n-preserved g c = record {
  so_far = so_far_more g.D.Disk.seen _ _ _ c.loop-n.n c.loop-n.invariant.so_far c.in-Goes.ensures.turns;
  empty = c.in-Goes.ensures.empty;
}

pub returns-in_default : goal.returns-in_default
returns-in_default g c =
    finished g.D.Disk.seen _ _ c.args.budget (status_of c.take_turn.result (c.loop-n.n + 1)) c.finish.result _ c.finish.new.stream
    (closes g.D.Disk.seen _ _ _ c.loop-n.n c.args.budget c.take_turn.result (omega (arith, c.loop-n-test.true)) c.loop-n.invariant.so_far c.take_turn.ensures.turns c.in_default.not-Goes)
    (rw c.ending.ensures at c.finish.ensures)

pub returns : goal.returns
returns g c =
    finished g.D.Disk.seen _ _ c.args.budget Spent c.finish-2.result _ c.finish-2.new.stream
    (closes_spent g.D.Disk.seen _ _ c.args.budget
    (so_far_at g.D.Disk.seen _ _ c.loop-n.n c.args.budget (omega (arith, c.loop-n-test.false, c.loop-n.auto.n-end)) c.loop-n.invariant.so_far)) c.finish-2.ensures
