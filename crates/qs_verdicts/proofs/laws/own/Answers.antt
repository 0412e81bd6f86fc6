use Rattle.std.proofs.Common.{refl}
use Rattle.qs_model.specs.Laws.{opening_world}
use Rattle.qs_model.proofs.Kept.{new_ok}
use Rattle.qs_verdicts.proofs.Verdicts.{own as law}
use Rattle.qs_verdicts.proofs.laws.own.Goals as goal

pub returns : goal.returns
returns c = λ A o es pos run. law A (opening_world o) es pos (new_ok A 0 o) (λ r. refl) run
