-- The operations of a stripe: which answer may come, and what it leaves.
use Rattle.std.specs.Prelude.{◌≡◌, ◌≢◌, ℕ, ◌+◌, ◌*◌, ◌≤◌, Bool, true, false, List, [], ◌∷◌, length, Option, Some, None, IsTrue}
use Rattle.qs_part.specs.declared.stripe.Side.{Side}
use Rattle.qs_part.specs.declared.stripe.StripeOp.{StripeOp}
use Rattle.qs_part.specs.declared.stripe.StripeOp.TheVariants.{Load, Hold, Store, Free, Sync}
use Rattle.qs_part.specs.declared.stripe.StripeReply.{StripeReply}
use Rattle.qs_part.specs.declared.stripe.StripeReply.TheVariants.{Filled, Fault, HeldBy, Taken, Done, Freed, NotHeld, Clean, Synced}
use Rattle.qs_outside.specs.Faults.{Rose}
use Rattle.qs_outside.specs.Blocks.{Seen, Fixed, Same, sync_spent}
use Rattle.qs_bytes.specs.Geometry.{stripe_of}
use Rattle.qs_outside.specs.Rigged.{MaySync}
pub use Rattle.qs_outside.specs.Runs.{Reads, IsContent, Refuses, Writes, IsStored, MayBeStored}
use Rattle.qs_stripe.specs.declared.geometry.Geometry.{Geometry}
use Rattle.qs_stripe.specs.declared.holds.Ends.{Ends}
use Rattle.qs_stripe.specs.Holds.{holds_of, IsHeld, IsFree, IsFreeFor, Takes, LetsGo}

-- a stripe: what its disk means, the block that the place of a request holds at an end, and whether it is clean: no
-- store reached the disk since the last sync
pub record StripeValue : Type 0 where
  pub disk : Seen
  pub hold : ℕ → Side → Option ℕ
  pub clean : Bool

-- a stripe in the program: its disk, the holds of each place, and whether it is clean
pub record StripeState (D : Type 0) : Type 0 where
  pub disk : D
  pub places : List Ends
  pub clean : Bool

-- what it means, by what its disk means
abbrev pub value_of : {D : Type 0} → (D → Seen) → StripeState D → StripeValue
value_of seen s = record { disk = seen s.disk; hold = holds_of s.places; clean = s.clean }

-- what never changes
abbrev pub geometry : StripeValue → Geometry
geometry v = record { stripe = v.disk.stripe; align = v.disk.align; size = v.disk.size }

-- nothing is held, and nothing was stored
pub record Opened (v : StripeValue) : Type 0 where
  pub free : (k : ℕ) (side : Side) → v.hold k side ≡ None
  pub clean : v.clean ≡ true

-- a block of the stripe, inside the image
pub record IsBlockOf (g : Geometry) (b : ℕ) : Type 0 where
  pub here : stripe_of b ≡ g.stripe
  pub inside : (b + 1) * g.align ≤ g.size

-- such a block, with a buffer of one block
pub record IsWhole (g : Geometry) (b : ℕ) (buf : List ℕ) : Type 0 where
  pub block : IsBlockOf g b
  pub whole : length buf ≡ g.align

-- an operation is on a block of the stripe, with a buffer of one block
abbrev pub Fits : Geometry → StripeOp → Type 0
Fits g (Load b k buf) = IsWhole g b buf
Fits g (Hold b k end buf) = IsWhole g b buf
Fits g (Store b k buf) = IsWhole g b buf
Fits g (Free b k) = IsBlockOf g b
Fits g Sync = Unit {0}

-- The disk was synced, or refused: each block stays. Nothing but its count of faults and the plan of a sync changes
-- where it refused.
pub record Syncs (old new : Seen) : Type 0 where
  pub fixed : Fixed old new
  pub now : IsTrue old.tells → Same old.now new.now
  pub planned : new.planned ≡ sync_spent old.planned
  pub later : old.faults ≤ new.faults

-- it was synced: a crash leaves what each block holds now; no sync was planned to fail, and none failed
pub record IsSettled (old new : Seen) : Type 0 where
  pub past : IsTrue old.tells → Same (λ b. old.now b ∷ []) new.past
  pub works : MaySync old
  pub kept : new.faults ≡ old.faults

-- the disk refused to sync, and a crash may leave what it might before
pub record IsUnsettled (old new : Seen) : Type 0 where
  pub past : IsTrue old.tells → Same old.past new.past
  pub full : new.full ≡ old.full
  pub rose : Rose old.faults new.faults

-- A stripe answers an operation, and what it is then. A store that was done or that the disk refused leaves it
-- unclean, and a sync alone makes it clean again.
abbrev pub answers : StripeValue → StripeOp → StripeReply → StripeValue → Type 0
answers old (Load b k buf) (Filled got) new =
    Reads old.disk new.disk × IsContent old.disk new.disk b got × (new.hold ≡ old.hold) × (new.clean ≡ old.clean)
answers old (Load b k buf) (Fault (Some back)) new =
    Reads old.disk new.disk × Refuses old.disk new.disk back × (new.hold ≡ old.hold) × (new.clean ≡ old.clean)
answers old (Hold b k end buf) (HeldBy j back) new =
    IsHeld old.hold j b × (back ≡ buf) × (new ≡ old)
answers old (Hold b k end buf) (Taken c back) new =
    IsFree old.hold b × (old.hold k end ≡ Some c) × (back ≡ buf) × (new ≡ old)
answers old (Hold b k end buf) (Filled got) new =
    IsFree old.hold b × (old.hold k end ≡ None) × Reads old.disk new.disk × IsContent old.disk new.disk b got
    × Takes k end b old.hold new.hold
    × (new.clean ≡ old.clean)
answers old (Hold b k end buf) (Fault (Some back)) new =
    IsFree old.hold b × (old.hold k end ≡ None) × Reads old.disk new.disk × Refuses old.disk new.disk back
    × (new.hold ≡ old.hold)
    × (new.clean ≡ old.clean)
answers old (Store b k buf) (HeldBy j back) new =
    IsHeld old.hold j b × (j ≢ k) × (back ≡ buf) × (new ≡ old)
answers old (Store b k buf) (Done back) new =
    IsFreeFor old.hold k b × Writes b buf old.disk new.disk × IsStored b buf old.disk new.disk × (back ≡ buf)
    × LetsGo k b old.hold new.hold
    × (new.clean ≡ false)
answers old (Store b k buf) (Fault (Some back)) new =
    IsFreeFor old.hold k b × Writes b buf old.disk new.disk × MayBeStored b buf old.disk new.disk × (back ≡ buf)
    × LetsGo k b old.hold new.hold
    × (new.clean ≡ false)
answers old (Free b k) Freed new =
    IsHeld old.hold k b × (new.disk ≡ old.disk) × LetsGo k b old.hold new.hold × (new.clean ≡ old.clean)
answers old (Free b k) NotHeld new = (IsHeld old.hold k b → ⊥) × (new ≡ old)
answers old Sync Clean new = (old.clean ≡ true) × (new ≡ old)
answers old Sync Synced new =
    (old.clean ≡ false) × Syncs old.disk new.disk × IsSettled old.disk new.disk × (new.hold ≡ old.hold)
    × (new.clean ≡ true)
answers old Sync (Fault None) new =
    (old.clean ≡ false) × Syncs old.disk new.disk × IsUnsettled old.disk new.disk × (new.hold ≡ old.hold)
    × (new.clean ≡ false)
answers _ _ _ _ = ⊥
