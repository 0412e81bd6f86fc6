-- A stream that had failed brings no line.
use Rattle.qs_replay.proofs.Coming.{seeks_none}
use Rattle.qs_replay.proofs.lines.next_line.Goals as goal

pub returns-in_err-check : goal.returns-in_err-check
returns-in_err-check g c = seeks_none _ _ _ _ c.from_residual.ensures.1 c.in_err-check.ensures
