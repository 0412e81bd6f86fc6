use Rattle.std.proofs.Common.{◌∙◌, ap}
use Rattle.qs_task.proofs.Walking.{polling_none, polling_on, polling_ends}
use Rattle.qs_task.proofs.task.RequestTask.poll.Goals as goal

pub loop-init : goal.loop-init
loop-init g c =
    (c.requires.of, c.requires.shape, c.requires.unanswered, polling_none _ _, g.met.S.Station.follows_self c.args.station.now)

pub loop-preserved : goal.loop-preserved
loop-preserved g c =
    let calls = c.in-None-advance.ensures.moves in
    let so = c.loop.invariant.3 in (
      c.advance.ensures.of,
      ap (λ t. t.shape) calls.rest ∙ c.loop.invariant.1,
      ap (λ t. t.over) calls.rest ∙ c.loop.invariant.2,
      polling_on _ _ _ _ _ _ so calls,
      g.met.S.Station.follows_on _ _ _ c.loop.invariant.4 c.advance.ensures.later,
    )

pub returns-in-Some-advance-clause-polls : goal.returns-in-Some-advance-clause-polls
returns-in-Some-advance-clause-polls g c =
    polling_ends c.in-Some-advance.polled _ _ _ _ _ _ c.loop.invariant.3 c.in-Some-advance.ensures.moves
