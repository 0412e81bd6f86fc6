use Rattle.qs_model.specs.Laws.{opening_world}
use Rattle.qs_model.proofs.Evented.{evented as law}
use Rattle.qs_model.proofs.laws.evented.Goals as goal

pub returns : goal.returns
returns c = λ A o es run. law A (opening_world o) es run
