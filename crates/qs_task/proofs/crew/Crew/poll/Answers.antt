use Rattle.std.proofs.Common.{ℕ, ◌≤◌, ◌==◌, List, sym, ap, subst, refl, ◌∙◌}
use Rattle.std.specs.Prelude.{position}
use Rattle.qs_task.specs.Tasks.{TaskValue}
use Rattle.qs_task.specs.Crews.{CrewValue, CrewPolls, live_by_number}
use Rattle.qs_task.proofs.Crewing.{found_none, polls_there, still_manned}
use Rattle.qs_task.proofs.crew.Crew.poll.Goals as goal

pub invariant_of-self : goal.invariant_of-self
invariant_of-self g c =
    let place = ap (λ (ts : List TaskValue). position (λ t. t.number == c.args.number) ts) (sym c.deref.ensures.value) ∙ sym c.find.ensures ∙ c.in-Some.is in (
      subst (λ (n : ℕ). 16 ≤ n) (sym c.poll_at.ensures.capacity) c.self.invariant.0,
      still_manned c.self.inside.shape c.in-Some.at c.args.number c.poll_at.result c.self.inside.tasks.items c.poll_at.new.tasks.items _ _ place c.self.invariant.1
          c.poll_at.ensures.polls,
    )

pub returns-in-None-clause-polls : goal.returns-in-None-clause-polls
returns-in-None-clause-polls g c =
    let place = ap (λ (ts : List TaskValue). position (λ t. t.number == c.args.number) ts) (sym c.deref.ensures.value) ∙ sym c.find.ensures ∙ c.in-None.is in (
      ap (λ (w : CrewValue). live_by_number c.args.number w.live) (sym c.self.view_is) ∙ found_none c.args.number c.self.inside.tasks.items place,
      refl,
      refl,
    )

pub returns-clause-polls : goal.returns-clause-polls
returns-clause-polls g c =
    let place = ap (λ (ts : List TaskValue). position (λ t. t.number == c.args.number) ts) (sym c.deref.ensures.value) ∙ sym c.find.ensures ∙ c.in-Some.is in
    let after : CrewValue = record { shape = c.self.inside.shape; newest = c.self.inside.newest; live = c.poll_at.new.tasks.items } in
    let before : CrewValue = record { shape = c.self.inside.shape; newest = c.self.inside.newest; live = c.self.inside.tasks.items } in
    subst (λ (w : CrewValue). CrewPolls c.poll_at.result c.args.number w after (g.S.Station.book c.args.station.now) (g.S.Station.book c.poll_at.new.station)) c.self.view_is
    (polls_there before c.in-Some.at c.args.number c.poll_at.result c.poll_at.new.tasks.items _ _ place c.self.invariant.1 c.poll_at.ensures.polls)
