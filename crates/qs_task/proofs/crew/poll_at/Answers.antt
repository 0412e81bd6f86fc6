use Rattle.std.proofs.Common.{◌≡◌, ap, subst, ◌∙◌}
use Rattle.qs_task.specs.declared.need.Polled.TheVariants.{Ready as IsReady}
use Rattle.qs_task.specs.Tasks.{TaskValue, Polls}
use Rattle.qs_task.proofs.Crewing.{is_there, remove_set}
use Rattle.qs_task.proofs.crew.poll_at.Goals as goal

pub returns-in-Ready-clause-polls : goal.returns-in-Ready-clause-polls
returns-in-Ready-clause-polls g c = λ t stands.
    let polled : c.index_mut.result.now ≡ t =
    is_there c.args.tasks.now.items c.args.at c.index_mut.result.now t c.requires.inside c.index_mut.ensures.value stands in
    let asked : c.index.result.now ≡ t =
    is_there c.args.tasks.now.items c.args.at c.index.result.now t c.requires.inside c.index.ensures stands in (
      c.poll.new.self,
      subst (λ (x : TaskValue). Polls (IsReady c.in-Ready.verdict) x c.poll.new.self (g.S.Station.book c.args.station.now) (g.S.Station.book c.poll.new.station)) polled
          c.in-Ready.ensures.polls,
      c.ask-ask.ensures ∙ ap (λ (x : TaskValue). x.request.client.ask) asked,
      c.remove-task.ensures.items ∙ remove_set c.args.tasks.now.items c.args.at c.poll.new.self,
    )
