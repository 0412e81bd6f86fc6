-- The core as it is made.
use Rattle.std.specs.Prelude.{◌≡◌, ◌≢◌, ℕ, true, ◌&&◌, ◌∷◌, [], Bool, List, map, Option, Some, None}
use Rattle.qs_status.specs.declared.status.OpenBad.{OpenBad}
use Rattle.qs_outside.specs.Blocks.{Seen}
use Rattle.qs_image.specs.Image.{disk, align_of, size_of, block_now, block_past}
use Rattle.qs_image.specs.Opening.{Opens, IsImage}
use Rattle.qs_outside.specs.declared.rigged_disk.Fail.{Fail}
use Rattle.qs_outside.specs.declared.rigged_disk.Plans.{Plans}
use Rattle.qs_outside.specs.Rigged.{planned_too, plans_of}
use Rattle.qs_part.specs.declared.graph.GraphOp.TheVariants.{ExportAdd}
use Rattle.qs_part.specs.declared.graph.GraphReply.TheVariants.{Added}
use Rattle.qs_graph.specs.Exports.{export_at}
use Rattle.qs_graph.specs.Table.{fresh as fresh_graph, after}
use Rattle.qs_model.specs.Acts.{Exported, Planned as PlannedStep}
use Rattle.qs_world.specs.Events.{Does}
use Rattle.qs_model.specs.Laws.{opening_world}
use Rattle.qs_model.specs.Worlds.{Opening}
use Rattle.qs_stripe.specs.Table.{value_of as stripe_value, Opened}
use Rattle.qs_tracker.specs.Table.{fresh as fresh_tracker}
use Rattle.std.specs.List.{AllByRecursion}
use Rattle.qs_world.specs.Images.{stripe_at}
use Rattle.qs_world.specs.Stands.{Stands}
use Rattle.qs_world.specs.Values.{WorldValue, stripes_of}

-- the failures that are planned for each disk
abbrev pub planned_of : List Seen → (ℕ → Plans)
planned_of disks j = plans_of (disk disks j).planned

-- all disks tell their content
abbrev pub tells_of : List Seen → Bool
tells_of [] = true
tells_of (d ∷ ds) = d.tells && tells_of ds

-- what a core over these disks and this file node is opened over, in the words of the model
abbrev pub opening_over : List Seen → List ℕ → Bool → Opening
opening_over disks file read_only = record {
  tells = tells_of disks;
  plans = planned_of disks;
  now = block_now disks;
  past = block_past disks;
  clean = λ s. true;
  size = size_of disks;
  file = file;
  read_only = read_only;
}

-- The core over these disks, with a file node and nothing else: it stands for the opening state of the model over them.
pub record IsOpened {D : Type 0} (seen : D → Seen) (disks : List D) (file : List ℕ) (read_only : Bool)
    (w : WorldValue D) : Type 0 where
  pub image : IsImage (map seen disks)
  pub shape : w.shape ≡ record { align = align_of (map seen disks); size = size_of (map seen disks) }
  pub next : w.next ≡ 0
  pub requests : w.requests ≡ []
  pub sessions : w.sessions ≡ []
  pub graph : w.graph ≡ fresh_graph (size_of (map seen disks)) file read_only
  pub tracker : w.tracker ≡ fresh_tracker 0
  pub stripes : map (λ s. s.disk) w.stripes ≡ disks
  pub free : AllByRecursion (λ s. Opened (stripe_value seen s)) w.stripes
  pub stands : Stands seen w (opening_world (opening_over (map seen disks) file read_only))

-- the disks come back: they break this rule first, or memory was refused
abbrev pub ComeBack : {D : Type 0} → (D → Seen) → List D → List D → Option OpenBad → Type 0
ComeBack seen disks back (Some bad) = (back ≡ disks) × Opens (map seen disks) (Some bad)
ComeBack seen disks back None = (back ≡ disks) × IsImage (map seen disks)

-- no export stands
abbrev pub HasNoExport : {D : Type 0} → WorldValue D → Type 0
HasNoExport w = (e : ℕ) → export_at w.graph.places e ≡ None

-- an export over the file node was made, with this id and name: a step of the model
pub record Exports {D : Type 0} (seen : D → Seen) (old : WorldValue D) (name : List ℕ) (writable : Bool)
    (new : WorldValue D) : Type 0 where
  pub place : ℕ
  pub does : Does seen old (Exported (ExportAdd name name old.graph.file writable true) place) new
  pub same : new ≡ record old {
    graph = after old.graph (ExportAdd name name old.graph.file writable true)
        (Added place);
  }

-- A failure was planned on the disk of one stripe, and nothing else changed: a step of the model.
pub record Planned {D : Type 0} (seen : D → Seen) (old : WorldValue D) (stripe : ℕ) (fail : Fail)
    (new : WorldValue D) : Type 0 where
  pub rest : new ≡ record old { stripes = new.stripes }
  pub planned : (stripe_at (stripes_of seen new) stripe).disk
      ≡ record (stripe_at (stripes_of seen old) stripe).disk {
        planned = Some
            (planned_too fail (plans_of (stripe_at (stripes_of seen old) stripe).disk.planned));
      }
  pub others : (j : ℕ) → j ≢ stripe → stripe_at (stripes_of seen new) j ≡ stripe_at (stripes_of seen old) j
  pub does : Does seen old (PlannedStep stripe fail) new
