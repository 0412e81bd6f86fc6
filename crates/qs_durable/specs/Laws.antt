-- Nothing older than an acknowledged flush, in every run.
use Rattle.std.specs.Prelude.{◌≡◌, ℕ, ◌/◌, ◌%◌, true, List, [], ◌∷◌, get_or}
use Rattle.qs_bytes.specs.Geometry.{stripe_of}
use Rattle.qs_model.specs.Worlds.{Opening, World}
use Rattle.qs_model.specs.Acts.{Element, Crashed}
use Rattle.qs_model.specs.Laws.{Begins, ComesBehind}
use Rattle.qs_durable.specs.Ages.{IsNoOlder, LeavesNoOlder}
use Rattle.qs_durable.specs.Bounds.{IsBound, SyncedSince}

-- The disks are handed in settled: of a stripe that stored nothing since its last sync a crash leaves what its blocks
-- hold.
abbrev pub IsHandedInSettled : Opening → Type 0
IsHandedInSettled o = (b : ℕ) → o.clean (stripe_of b) ≡ true → o.past b ≡ o.now b ∷ []

-- Whatever a crash may leave of a byte, behind any steps, is no older than any position before a sync of the byte's
-- stripe.
abbrev pub SyncsBound : ℕ → World → List Element → Type 0
SyncsBound A w es = (x : ℕ) (since steps : List Element) → Begins steps es →
    SyncedSince (stripe_of (x / A)) since steps → LeavesNoOlder A w x since steps

-- Whatever a crash may leave of a byte, behind any steps, is no older than each position that bounds it; and neither
-- is what a crash did leave.
pub record Durable (A : ℕ) (w : World) (es : List Element) : Type 0 where
  pub left : (x : ℕ) (position answered steps : List Element) → Begins steps es → Begins answered steps →
      IsBound A x position answered →
      LeavesNoOlder A w x position steps
  pub crashed : (x : ℕ) (position answered before : List Element) (left : ℕ → List ℕ) →
      ComesBehind before (Crashed left) es → Begins answered before →
      IsBound A x position answered → IsNoOlder A w x (get_or (left (x / A)) (x % A) 0) position before

-- Whatever a crash may leave is no older than the opening, where the disks were handed in with nothing else to be left.
abbrev pub SinceOpening : ℕ → World → List Element → Type 0
SinceOpening A w es = (x : ℕ) (steps : List Element) → Begins steps es → LeavesNoOlder A w x [] steps
