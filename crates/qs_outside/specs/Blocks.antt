-- What a disk means: one of eight that hold an image in turn, sixteen blocks at a time.
use Rattle.std.specs.Prelude.{◌≡◌, ◌≢◌, ℕ, ◌+◌, ◌*◌, ◌≤◌, ◌⊎◌, Bool, false, List, Option, None, Some, Contains}
use Rattle.std.specs.List.{AllByRecursion}
use Rattle.qs_bytes.specs.Geometry.{stripe_of}
use Rattle.qs_outside.specs.declared.rigged_disk.Plans.{Plans}

-- All that a disk means. A real file tells neither its content nor its plans; `now` and `past` are
-- by block number, and empty at the blocks of other stripes.
pub record Seen : Type 0 where
  pub stripe : ℕ
  pub align : ℕ
  pub size : ℕ
  pub faults : ℕ
  pub tells : Bool
  pub now : ℕ → List ℕ
  pub past : ℕ → List (List ℕ)
  pub planned : Option Plans
  pub full : Option Bool

-- a block of this disk's stripe, inside the image
pub record IsBlock (disk : Seen) (b : ℕ) : Type 0 where
  pub here : stripe_of b ≡ disk.stripe
  pub inside : (b + 1) * disk.align ≤ disk.size

-- what stays the same at every call
pub record Fixed (old new : Seen) : Type 0 where
  pub stripe : new.stripe ≡ old.stripe
  pub align : new.align ≡ old.align
  pub size : new.size ≡ old.size
  pub tells : new.tells ≡ old.tells

-- block for block the same
abbrev pub Same : {X : Type 0} → (ℕ → X) → (ℕ → X) → Type 0
Same old new = (b : ℕ) → new b ≡ old b

-- one block has these bytes now, and every other block is as it was
pub record Stored (b : ℕ) (bytes : List ℕ) (old new : ℕ → List ℕ) : Type 0 where
  pub here : new b ≡ bytes
  pub others : (c : ℕ) → c ≢ b → new c ≡ old c

-- a refused store left the old content or the new
abbrev pub StoredOrNot : ℕ → List ℕ → (ℕ → List ℕ) → (ℕ → List ℕ) → Type 0
StoredOrNot b bytes old new = Same old new ⊎ Stored b bytes old new

-- what a crash may leave of one block after a store: a content from before, or these bytes
pub record MayLeave (b : ℕ) (bytes : List ℕ) (old new : ℕ → List (List ℕ)) : Type 0 where
  pub here : AllByRecursion (λ c. (c ≡ bytes) ⊎ Contains (old b) c) (new b)
  pub others : (c : ℕ) → c ≢ b → new c ≡ old c

-- a call spends the plan of its own kind
abbrev pub load_spent : Option Plans → Option Plans
load_spent None = None
load_spent (Some plans) = Some (record plans { load = false })

abbrev pub store_spent : Option Plans → Option Plans
store_spent None = None
store_spent (Some plans) = Some (record plans { store = None })

abbrev pub sync_spent : Option Plans → Option Plans
sync_spent None = None
sync_spent (Some plans) = Some (record plans { sync = false })
