-- A poll leaves requests whose answers have replies.
use Rattle.std.proofs.Common.{sym, subst, ap, ◌∙◌}
use Rattle.qs_task.specs.Crews.{CrewValue}
use Rattle.qs_transmission_phase.proofs.Fits.{Fitting, poll_fits, still_fits}
use Rattle.qs_transmission_phase.proofs.requests.LiveRequests.poll.Goals as goal

pub invariant_of-self : goal.invariant_of-self
invariant_of-self g c =
    let keeps = poll_fits c.poll-polled.result c.args.number c.self.inside.crew c.poll-polled.new.self _ _ c.self.invariant c.poll-polled.ensures.polls in
    subst Fitting (sym c.keep_answered.ensures) (still_fits c.poll-polled.result c.self.inside.crew c.poll-polled.new.self c.self.invariant keeps)

pub returns-clause-reply : goal.returns-clause-reply
returns-clause-reply g c =
    (poll_fits c.poll-polled.result c.args.number c.self.inside.crew c.poll-polled.new.self _ _ c.self.invariant c.poll-polled.ensures.polls).reply

pub returns-clause-shape : goal.returns-clause-shape
returns-clause-shape g c =
    let keeps = poll_fits c.poll-polled.result c.args.number c.self.inside.crew c.poll-polled.new.self _ _ c.self.invariant c.poll-polled.ensures.polls in
    ap (λ (w : CrewValue). w.shape) c.keep_answered.ensures ∙ keeps.shape ∙ ap (λ (w : CrewValue). w.shape) c.self.view_is
