-- A stream that had failed brings no request.
use Rattle.qs_stdio.proofs.Sought.{asks_fault}
use Rattle.qs_stdio.proofs.session.Session.next_ask.Goals as goal

pub returns-in_err-check : goal.returns-in_err-check
returns-in_err-check g c = asks_fault _ _ _ _ _ c.from_residual.ensures.1 c.in_err-check.ensures
