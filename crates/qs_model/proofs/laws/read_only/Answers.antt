use Rattle.qs_model.specs.Laws.{opening_world}
use Rattle.qs_model.proofs.Kept.{new_ok}
use Rattle.qs_model.proofs.ReadOnly.{no_store as law, opened_barred}
use Rattle.qs_model.proofs.laws.read_only.Goals as goal

pub returns : goal.returns
returns c = λ A o es pos closed run. law A (opening_world o) es pos (new_ok A 0 o) (opened_barred o closed) run
