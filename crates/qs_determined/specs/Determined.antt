-- What fixes a run: its events, its planned failures, what its crashes left, and what the disks held.
use Rattle.std.specs.Prelude.{◌≡◌, ℕ, List, true, Some}
use Rattle.qs_outside.specs.declared.crash.CrashChoice.{CrashChoice}
use Rattle.qs_outside.specs.declared.rigged_disk.Fail.{Fail}
use Rattle.qs_part.specs.declared.event.Event.{Event}
use Rattle.qs_part.specs.declared.graph.GraphOp.{GraphOp}
use Rattle.qs_model.specs.Requests.{Client, Stage, edge}
use Rattle.qs_model.specs.Worlds.{World}
use Rattle.qs_bytes.specs.Geometry.{stripe_of}
use Rattle.qs_model.specs.Acts.{Act, LoadFails, HoldFails, StoreFails, SyncFails, Element, Asked, Did, Exported, Planned, Crashed}
use Rattle.qs_model.specs.Events.{IsEvent}

-- What comes from outside: an event; a failure that is planned for the disk of a stripe; a crash, with what was
-- chosen and the blocks that it left; or the making of an export by an operation of the graph.
pub data Input : Type 0 where
  Happens : Event → Input
  Fails : (j : ℕ) → Fail → Input
  Cuts : CrashChoice → (left : ℕ → List ℕ) → Input
  Makes : GraphOp → Input

-- the step that an input makes
abbrev pub IsInput : Input → Element → Type 0
IsInput (Happens event) e = IsEvent event e
IsInput (Fails j fail) (Planned i kind) = (i ≡ j) × (kind ≡ fail)
IsInput (Fails j fail) _ = ⊥
IsInput (Cuts choice left) (Crashed blocks) = (b : ℕ) → blocks b ≡ left b
IsInput (Cuts choice left) _ = ⊥
IsInput (Makes op) (Exported made place) = made ≡ op
IsInput (Makes op) _ = ⊥

-- A row in which the disk failed: that was planned, and a store that failed left what its plan says.
abbrev pub IsRowPlanned : ℕ → World → Client → {stage : Stage} → Act stage → Type 0
IsRowPlanned A w c (LoadFails {b = b}) = (w.plans (stripe_of b)).load ≡ true
IsRowPlanned A w c (HoldFails {side = side}) = (w.plans (stripe_of (edge A c side))).load ≡ true
IsRowPlanned A w c (StoreFails {b = b} bytes took past) = (w.plans (stripe_of b)).store ≡ Some took
IsRowPlanned A w c (SyncFails {s = s}) = (w.plans s).sync ≡ true
IsRowPlanned A w c _ = Unit {0}

-- no disk failed but by a plan
abbrev pub IsUndisturbed : ℕ → World → Element → Type 0
IsUndisturbed A w (Did r q act) = IsRowPlanned A w q.client act
IsUndisturbed A w _ = Unit {0}

-- two requests that are made were given their buffers, or both were refused them
abbrev pub IsGivenAlike : Element → Element → Type 0
IsGivenAlike (Asked r c) (Asked s d) = d.buffered ≡ c.buffered
IsGivenAlike _ _ = Unit {0}

-- Two states that differ at most in what a crash may leave of the blocks.
pub record Alike (w v : World) : Type 0 where
  pub tells : v.tells ≡ w.tells
  pub next : v.next ≡ w.next
  pub req : (r : ℕ) → v.req r ≡ w.req r
  pub session : (s : ℕ) → v.session s ≡ w.session s
  pub graph : v.graph ≡ w.graph
  pub clients : (e : ℕ) → v.clients e ≡ w.clients e
  pub tracker : v.tracker ≡ w.tracker
  pub now : (b : ℕ) → v.image.now b ≡ w.image.now b
  pub holder : (b : ℕ) → v.image.holder b ≡ w.image.holder b
  pub clean : (s : ℕ) → v.image.clean s ≡ w.image.clean s
  pub plans : (j : ℕ) → v.plans j ≡ w.plans j
