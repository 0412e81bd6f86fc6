use Rattle.std.proofs.Common.{refl}
use Rattle.qs_model.specs.Laws.{opening_world}
use Rattle.qs_model.proofs.Kept.{new_ok}
use Rattle.qs_verdicts.proofs.Clients.{new_clients}
use Rattle.qs_verdicts.proofs.Kept.{always_kept as law}
use Rattle.qs_verdicts.proofs.laws.kept.Goals as goal

pub returns : goal.returns
returns c = λ A o es pos run. law A (opening_world o) es pos (new_ok A 0 o) (λ r. refl) (new_clients o) run
