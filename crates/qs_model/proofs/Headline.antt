-- All laws of a run from the opening state.
use Rattle.std.proofs.Common.{ℕ, ◌<◌, List, refl}
use Rattle.qs_model.specs.Acts.{Element}
use Rattle.qs_model.specs.Steps.{Runs}
use Rattle.qs_model.specs.Laws.{Besides, Headline, opening_world}
use Rattle.qs_model.specs.Worlds.{Opening}
use Rattle.qs_model.proofs.Kept.{new_ok}
use Rattle.qs_model.proofs.Facts.{Ok}
use Rattle.qs_model.proofs.Cells.{covered, histories}
use Rattle.qs_model.proofs.Seen.{none_older}
use Rattle.qs_model.proofs.Between.{between, writable, tracked, in_place}
use Rattle.qs_model.proofs.ReadOnly.{no_store, opened_barred}
use Rattle.qs_model.proofs.ReadsOnce.{reads_once}
use Rattle.qs_model.proofs.WritesOnce.{writes_once}
use Rattle.qs_model.proofs.Undivided.{undivided}
use Rattle.qs_model.proofs.Evented.{evented}
use Rattle.qs_model.proofs.Never.{never_odd}

pub headline : (A : ℕ) (o : Opening) (es : List Element) → 0 < A → Runs A (opening_world o) es → Headline A (opening_world o) es
headline A o es pos run =
    let ok : Ok A (opening_world o) = new_ok A 0 o in
    record {
      one_history = λ told. histories A (opening_world o) es pos told ok run;
      none_older = none_older A es (between A (opening_world o) es pos ok (λ r. refl) run);
      covered = λ told. covered A (opening_world o) es pos told ok run;
      undivided = undivided A (opening_world o) es pos ok run;
    }

pub besides : (A : ℕ) (o : Opening) (es : List Element) → 0 < A → Runs A (opening_world o) es → Besides A (opening_world o) es
besides A o es pos run =
    let ok : Ok A (opening_world o) = new_ok A 0 o in
    record {
      between = between A (opening_world o) es pos ok (λ r. refl) run;
      reads_once = reads_once A (opening_world o) es pos ok (λ r. refl) refl run;
      writes_once = writes_once A (opening_world o) es pos ok (λ r. refl) refl run;
      never_odd = never_odd A (opening_world o) es pos ok run;
      writable = writable A (opening_world o) es pos ok (λ r. refl) run;
      read_only = λ closed. no_store A (opening_world o) es pos ok (opened_barred o closed) run;
      tracked = tracked A (opening_world o) es pos ok run;
      in_place = in_place A (opening_world o) es pos ok run;
      evented = evented A (opening_world o) es run;
    }
