-- A core over disks with one export, and the run of the model that its calls are.
use Rattle.std.specs.Prelude.{◌≡◌, ℕ, Bool, true, not, List, ◌∷◌, map, codes, Option, Some, None, IsTrue}
use Rattle.qs_status.specs.declared.status.OpenBad.{OpenBad}
use Rattle.qs_status.specs.declared.status.Status.{Status}
use Rattle.qs_status.specs.declared.status.Status.TheVariants as status
use Rattle.qs_outside.specs.Blocks.{Seen}
use Rattle.qs_image.specs.Image.{align_of}
use Rattle.qs_image.specs.Opening.{Opens}
use Rattle.qs_model.specs.Acts.{Element, Exported}
use Rattle.qs_model.specs.Laws.{Besides, Headline, opening_world}
use Rattle.qs_model.specs.Steps.{Runs, world_after, happens}
use Rattle.qs_model.specs.Worlds.{World}
use Rattle.qs_part.specs.declared.graph.GraphOp.{GraphOp}
use Rattle.qs_part.specs.declared.graph.GraphOp.TheVariants.{ExportAdd}
use Rattle.qs_verdicts.specs.Judged.{Judged}
use Rattle.qs_durable.specs.Laws.{Durable, IsHandedInSettled}
use Rattle.qs_world.specs.Openings.{Exports, IsOpened, opening_over, tells_of}
use Rattle.qs_world.specs.Stands.{Stands}
use Rattle.qs_world.specs.Values.{WorldValue}
use Rattle.qs_calls.specs.Calls.{AreCalls, Call, Walks}

-- what the core is opened over: these disks, and the file node `file0`
abbrev pub opened_world : List Seen → Bool → World
opened_world disks read_only = opening_world (opening_over disks (codes "file0") read_only)

-- the export `disk`, which may be written where the file node may
abbrev pub image_export : Bool → GraphOp
image_export read_only = ExportAdd (codes "disk") (codes "disk") (codes "file0") (not read_only) true

-- the state behind the making of that export, at this place
abbrev pub exported : List Seen → Bool → ℕ → World
exported disks read_only place = happens (align_of disks) (opened_world disks read_only)
    (Exported (image_export read_only) place)

-- A run of the model from its opening state: the export is made, and then each step is a call's, in order, as the core
-- went through them; before each the disks told this of being full. The headline holds of it, and so do the other laws
-- of runs; where the disks tell their content and were handed in settled, a crash leaves nothing older than an
-- acknowledged flush. The core stands for where it leads.
pub record HasRun {D : Type 0} (seen : D → Seen) (disks : List Seen) (read_only : Bool) (start : WorldValue D)
    (calls : List Call) (w : WorldValue D) : Type 0 where
  pub place : ℕ
  pub elements : List Element
  pub fulls : List (ℕ → Option Bool)
  pub are : AreCalls (align_of disks) calls elements
  pub walked : Walks seen start calls elements fulls w
  pub run : Runs (align_of disks) (opened_world disks read_only) (Exported (image_export read_only) place ∷ elements)
  pub headline : Headline (align_of disks) (opened_world disks read_only)
      (Exported (image_export read_only) place ∷ elements)
  pub besides : Besides (align_of disks) (opened_world disks read_only)
      (Exported (image_export read_only) place ∷ elements)
  pub judged : Judged (align_of disks) (opened_world disks read_only)
      (Exported (image_export read_only) place ∷ elements)
  pub durable : IsTrue (tells_of disks) → IsHandedInSettled (opening_over disks (codes "file0") read_only) →
      Durable (align_of disks) (opened_world disks read_only) (Exported (image_export read_only) place ∷ elements)
  pub stands : Stands seen w (world_after (align_of disks) (opened_world disks read_only)
      (Exported (image_export read_only) place ∷ elements))

-- A core over the disks, with the file node `file0` and the export `disk`.
pub record Begins {D : Type 0} (seen : D → Seen) (disks : List D) (read_only : Bool) (w : WorldValue D) : Type 0 where
  pub fresh : WorldValue D
  pub opened : IsOpened seen disks (codes "file0") read_only fresh
  pub exports : Exports seen fresh (codes "disk") (not read_only) w

-- the status where no core could be made
abbrev pub opening_status : Option OpenBad → Status
opening_status (Some bad) = status.OpenBad bad
opening_status None = status.Memory

-- The disks come back: they break this rule first, or memory was refused.
abbrev pub ComesBack : {D : Type 0} → (D → Seen) → List D → List D → Status → Type 0
ComesBack seen disks back (status.OpenBad bad) = (back ≡ disks) × Opens (map seen disks) (Some bad)
ComesBack seen disks back status.Memory = back ≡ disks
ComesBack seen disks back other = ⊥
