-- What happened to the core, one call after the other.
use Rattle.std.specs.Prelude.{◌≡◌, ℕ, Bool, true, not, List, [], ◌∷◌, Option, Some, codes}
use Rattle.qs_outside.specs.Blocks.{Seen}
use Rattle.qs_outside.specs.declared.crash.CrashChoice.{CrashChoice}
use Rattle.qs_outside.specs.declared.rigged_disk.Fail.{Fail}
use Rattle.qs_part.specs.declared.event.Event.{Event}
use Rattle.qs_part.specs.declared.event.Outcome.{Outcome}
use Rattle.qs_part.specs.declared.graph.GraphOp.{GraphOp}
use Rattle.qs_part.specs.declared.graph.GraphOp.TheVariants.{ExportAdd}
use Rattle.qs_graph.specs.Table.{GraphValue}
use Rattle.qs_model.specs.Acts.{Element, Exported as ExportedStep, Planned as PlannedStep, Crashed as CrashedStep}
use Rattle.qs_model.specs.Events.{IsEvent, outcome_of}
use Rattle.qs_world.specs.Crashing.{Crashed, left_at}
use Rattle.qs_world.specs.Events.{HasCause, Steps}
use Rattle.qs_world.specs.Images.{stripe_at}
use Rattle.qs_world.specs.Openings.{Exports, Planned}
use Rattle.qs_world.specs.Values.{WorldValue, stripes_of}

-- An event with its outcome; a failure that is planned for the disk of a stripe; a crash, by what was chosen, with
-- the blocks that it left; or the making of an export, by an operation of the graph, at a place.
pub data Call : Type 0 where
  Happened : Event → Outcome → Call
  Rigged : (stripe : ℕ) → Fail → Call
  PowerFailed : CrashChoice → (left : ℕ → List ℕ) → Call
  ExportMade : GraphOp → (place : ℕ) → Call

-- the export `disk` over the file node, which may be written where the file node may
abbrev pub anew : GraphValue → GraphOp
anew g = ExportAdd (codes "disk") (codes "disk") g.file (not g.read_only) true

-- that export was made
pub record MakesExport {D : Type 0} (seen : D → Seen) (w : WorldValue D) (op : GraphOp) (place : ℕ)
    (w' : WorldValue D) : Type 0 where
  pub exports : Exports seen w (codes "disk") (not w.graph.read_only) w'
  pub op_is : op ≡ anew w.graph
  pub place_is : place ≡ exports.place

-- What a call makes of the core: an event is a step of the model, and a fault of a disk has a raised count.
abbrev pub Makes : {D : Type 0} → (D → Seen) → WorldValue D → Call → WorldValue D → Type 0
Makes seen w (Happened event outcome) w' = Steps seen w event outcome w' × HasCause seen w outcome w'
Makes seen w (Rigged stripe fail) w' = Planned seen w stripe fail w'
Makes seen w (PowerFailed choice left) w' = Crashed seen w choice w' × (left ≡ left_at (stripes_of seen w) choice)
Makes seen w (ExportMade op place) w' = MakesExport seen w op place w'

-- the calls, one after the other
abbrev pub Plays : {D : Type 0} → (D → Seen) → WorldValue D → List Call → WorldValue D → Type 0
Plays seen w [] w' = w' ≡ w
Plays seen w (c ∷ calls) w' = (mid : WorldValue _) × (Makes seen w c mid × Plays seen mid calls w')

-- each step of the model is the call's at its place
abbrev pub AreCalls : ℕ → List Call → List Element → Type 0
AreCalls A [] [] = Unit {0}
AreCalls A [] (e ∷ es) = ⊥
AreCalls A (c ∷ cs) [] = ⊥
AreCalls A (Happened event outcome ∷ cs) (e ∷ es) = IsEvent event e × (outcome_of A e ≡ Some outcome) × AreCalls A cs es
AreCalls A (Rigged stripe fail ∷ cs) (e ∷ es) = (e ≡ PlannedStep stripe fail) × AreCalls A cs es
AreCalls A (PowerFailed choice left ∷ cs) (e ∷ es) = (e ≡ CrashedStep left) × AreCalls A cs es
AreCalls A (ExportMade op place ∷ cs) (e ∷ es) = (e ≡ ExportedStep op place) × AreCalls A cs es

-- the call makes of the core what `Makes` says, and does it by this step of the model
abbrev pub MakesStep : {D : Type 0} → (D → Seen) → WorldValue D → Call → Element → WorldValue D → Type 0
MakesStep seen w (Happened event outcome) e w' = (step : Steps seen w event outcome w') × (e ≡ step.element)
    × HasCause seen w outcome w'
MakesStep seen w (Rigged stripe fail) e w' = Planned seen w stripe fail w' × (e ≡ PlannedStep stripe fail)
MakesStep seen w (PowerFailed choice left) e w' = Crashed seen w choice w'
    × (left ≡ left_at (stripes_of seen w) choice) × (e ≡ CrashedStep left)
MakesStep seen w (ExportMade op place) e w' = MakesExport seen w op place w' × (e ≡ ExportedStep op place)

-- what the disk of each stripe tells of being full
abbrev pub full_at : {D : Type 0} → (D → Seen) → WorldValue D → ℕ → Option Bool
full_at seen w j = (stripe_at (stripes_of seen w) j).disk.full

-- The calls, one after the other: each by its step of the model, and before it the disks tell this of being full.
abbrev pub Walks : {D : Type 0} → (D → Seen) → WorldValue D → List Call → List Element → List (ℕ → Option Bool) →
    WorldValue D → Type 0
Walks seen w [] [] [] w' = w' ≡ w
Walks seen w (c ∷ cs) (e ∷ es) (full ∷ fulls) w' =
    (full ≡ full_at seen w) × (mid : WorldValue _) × (MakesStep seen w c e mid × Walks seen mid cs es fulls w')
Walks seen w cs es fulls w' = ⊥
