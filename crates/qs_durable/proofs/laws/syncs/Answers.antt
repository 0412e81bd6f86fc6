use Rattle.qs_model.specs.Laws.{opening_world}
use Rattle.qs_model.proofs.Kept.{new_ok}
use Rattle.qs_durable.proofs.Syncs.{syncs as law}
use Rattle.qs_durable.proofs.laws.syncs.Goals as goal

pub returns : goal.returns
returns c = λ A o es pos told settled run. law A (opening_world o) es pos told (new_ok A 0 o) settled run
