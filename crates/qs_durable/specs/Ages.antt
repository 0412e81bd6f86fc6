-- How old a byte is that a crash may leave. A position of a run is the list of the steps before it.
use Rattle.std.specs.Prelude.{◌≡◌, ℕ, ◌/◌, ◌%◌, ◌⊎◌, Bool, List, [], ◌∷◌, get_or, Contains}
use Rattle.qs_cells.specs.declared.cell.CellEntry.TheVariants.{Maybe}
use Rattle.qs_model.specs.Worlds.{Image, World, byte_at}
use Rattle.qs_model.specs.Acts.{Element}
use Rattle.qs_model.specs.Steps.{world_after}
use Rattle.qs_model.specs.Histories.{cell_at}
use Rattle.qs_model.specs.Laws.{Begins, ComesBehind}

-- a crash may leave the byte v at x: some content that may be left of the byte's block has it
pub record MayBeLeft (A : ℕ) (i : Image) (x v : ℕ) : Type 0 where
  pub content : List ℕ
  pub left : Contains (i.past (x / A)) content
  pub byte : get_or content (x % A) 0 ≡ v

-- the byte at x was v at some position, from `since` to the one behind these steps
pub record WasSince (A : ℕ) (w : World) (x v : ℕ) (since steps : List Element) : Type 0 where
  pub position : List Element
  pub later : Begins since position
  pub before : Begins position steps
  pub value : byte_at A (world_after A w position).image x ≡ v

-- from `since` on, a disk refused a store that had the byte v for x
pub record WasRefusedSince (A x v : ℕ) (since steps : List Element) : Type 0 where
  pub position : List Element
  pub store : Element
  pub later : Begins since position
  pub before : ComesBehind position store steps
  pub number : ℕ
  pub took : Bool
  pub entry : cell_at A x store ≡ Maybe number v took ∷ []

-- The byte v for x, as it may be found behind these steps, is no older than the position `since`: x had it there or
-- later, or a store that was refused later had it for x.
abbrev pub IsNoOlder : ℕ → World → ℕ → ℕ → List Element → List Element → Type 0
IsNoOlder A w x v since steps = WasSince A w x v since steps ⊎ WasRefusedSince A x v since steps

-- whatever a crash leaves of the byte at x behind these steps is no older than the position `since`
abbrev pub LeavesNoOlder : ℕ → World → ℕ → List Element → List Element → Type 0
LeavesNoOlder A w x since steps = (v : ℕ) → MayBeLeft A (world_after A w steps).image x v →
    IsNoOlder A w x v since steps
