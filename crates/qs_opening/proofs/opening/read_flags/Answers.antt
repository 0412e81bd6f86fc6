use Rattle.qs_opening.proofs.Coming.{flags_fault}
use Rattle.qs_opening.proofs.opening.read_flags.Goals as goal

pub returns-in_err-check : goal.returns-in_err-check
returns-in_err-check g c = flags_fault _ _ c.from_residual.result _ c.from_residual.ensures.1 c.in_err-check.ensures
