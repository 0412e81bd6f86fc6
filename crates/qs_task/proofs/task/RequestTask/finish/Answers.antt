use Rattle.std.proofs.Common.{◌∙◌, ap}
use Rattle.qs_task.specs.Tasks.{TaskValue}
use Rattle.qs_task.proofs.Walking.{polled_none, polled_more, polled_over}
use Rattle.qs_task.proofs.task.RequestTask.finish.Goals as goal

pub loop-init : goal.loop-init
loop-init g c =
    (c.requires.of, c.requires.shape, c.requires.unanswered, polled_none _ _, g.met.S.Station.follows_self c.args.station.now)

pub loop-preserved : goal.loop-preserved
loop-preserved g c =
    let one = c.in-Pending.ensures.polls in (
      c.poll.ensures.of,
      ap (λ (t : TaskValue). t.shape) one.ends.1 ∙ c.loop.invariant.1,
      ap (λ (t : TaskValue). t.over) one.ends.1 ∙ c.loop.invariant.2,
      polled_more c.in-Pending.field-0 _ _ _ _ _ _ c.loop.invariant.3 one,
      g.met.S.Station.follows_on _ _ _ c.loop.invariant.4 c.poll.ensures.later,
    )

pub returns-in-Ready-clause-runs : goal.returns-in-Ready-clause-runs
returns-in-Ready-clause-runs g c = (polled_over c.in-Ready.verdict _ _ _ _ _ _ c.loop.invariant.3 c.in-Ready.ensures.polls).0
