-- Abandoned requests are answered by nothing.
use Rattle.std.proofs.Common.{sym, subst}
use Rattle.qs_request_state.specs.Shapes.{IsShape}
use Rattle.qs_task.specs.Crews.{CrewValue}
use Rattle.qs_serving.proofs.Crewed.{fit_left}
use Rattle.qs_serving.specs.Fitting.{AllFit}
use Rattle.qs_transmission_phase.proofs.requests.LiveRequests.abandon.Goals as goal

pub invariant_of-self : goal.invariant_of-self
invariant_of-self c =
    subst (λ (w : CrewValue). AllFit w.shape.align w.live × IsShape w.shape) (sym c.abandon.ensures)
    (fit_left c.self.inside.crew.shape.align c.self.inside.crew.live c.self.invariant.0, c.self.invariant.1)
