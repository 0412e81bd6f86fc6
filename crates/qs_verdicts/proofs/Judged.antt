-- The laws that judge a run from an opening.
use Rattle.std.proofs.Common.{ℕ, ◌<◌, List, refl}
use Rattle.qs_model.specs.Acts.{Element}
use Rattle.qs_model.specs.Laws.{opening_world}
use Rattle.qs_model.specs.Steps.{Runs}
use Rattle.qs_model.specs.Worlds.{Opening}
use Rattle.qs_model.proofs.Kept.{new_ok}
use Rattle.qs_verdicts.specs.Judged.{Judged}
use Rattle.qs_verdicts.proofs.Clients.{new_clients}
use Rattle.qs_verdicts.proofs.Kept.{always_kept}
use Rattle.qs_verdicts.proofs.Verdicts.{own, own_bytes, verdicts}

pub judged : (A : ℕ) (o : Opening) (es : List Element) → 0 < A → Runs A (opening_world o) es → Judged A (opening_world o) es
judged A o es pos run = record {
  verdicts = verdicts A (opening_world o) es pos (new_ok A 0 o) (λ r. refl) run;
  own = own A (opening_world o) es pos (new_ok A 0 o) (λ r. refl) run;
  own_bytes = own_bytes A (opening_world o) es pos (new_ok A 0 o) (λ r. refl) run;
  kept = always_kept A (opening_world o) es pos (new_ok A 0 o) (λ r. refl) (new_clients o) run;
}
