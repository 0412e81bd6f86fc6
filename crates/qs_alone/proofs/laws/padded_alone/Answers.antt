use Rattle.std.proofs.Common.{refl}
use Rattle.qs_model.proofs.Padded.{padded_runs}
use Rattle.qs_alone.proofs.laws.padded_alone.Goals as goal

pub returns : goal.returns
returns c = record { run = padded_runs; idle = λ s. refl; own = (refl, (refl, (refl, (refl, (refl, (refl, (refl, (refl, (refl, tt))))))))) }
