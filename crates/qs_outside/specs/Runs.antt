-- Single calls of a disk, and runs: calls on blocks that lie one behind another, in order.
use Rattle.std.specs.Prelude.{◌≡◌, ℕ, zero, suc, ◌+◌, ◌*◌, ◌%◌, ◌≤◌, ◌<◌, List, length, IsTrue, Contains}
use Rattle.qs_bytes.specs.Geometry.{stripe_of}
use Rattle.qs_bytes.specs.Pieces.{part}
use Rattle.qs_outside.specs.Blocks.{Seen, Fixed, Same, Stored, StoredOrNot, MayLeave, load_spent, store_spent}
use Rattle.qs_outside.specs.Faults.{Rose}
use Rattle.qs_outside.specs.Rigged.{AsPlanned, MayLoad, MayStore}

-- the disk was read: nothing but its count of faults and the plan of a load changes
pub record Reads (old new : Seen) : Type 0 where
  pub fixed : Fixed old new
  pub now : IsTrue old.tells → Same old.now new.now
  pub past : IsTrue old.tells → Same old.past new.past
  pub planned : new.planned ≡ load_spent old.planned
  pub full : new.full ≡ old.full
  pub later : old.faults ≤ new.faults

-- the bytes that the disk has in a block, where it tells them; no load was planned to fail, and none failed
pub record IsContent (old new : Seen) (b : ℕ) (bytes : List ℕ) : Type 0 where
  pub whole : length bytes ≡ old.align
  pub now : IsTrue old.tells → bytes ≡ old.now b
  pub works : MayLoad old
  pub kept : new.faults ≡ old.faults

-- the disk refused to read, and the buffer comes back
pub record Refuses (old new : Seen) (back : List ℕ) : Type 0 where
  pub whole : length back ≡ old.align
  pub rose : Rose old.faults new.faults

-- A block was written, or the disk refused. A crash leaves a content from before, or these bytes;
-- it may leave what the block holds now, if that was so before.
pub record Writes (b : ℕ) (bytes : List ℕ) (old new : Seen) : Type 0 where
  pub fixed : Fixed old new
  pub past : IsTrue old.tells → MayLeave b bytes old.past new.past
  pub past_now : IsTrue old.tells → Contains (old.past b) (old.now b) → Contains (new.past b) (new.now b)
  pub planned : new.planned ≡ store_spent old.planned
  pub later : old.faults ≤ new.faults

-- it was written; no store was planned to fail, and none failed
pub record IsStored (b : ℕ) (bytes : List ℕ) (old new : Seen) : Type 0 where
  pub now : IsTrue old.tells → Stored b bytes old.now new.now
  pub works : MayStore old
  pub kept : new.faults ≡ old.faults

-- The disk refused: its count of faults rose, and the block has the old content or the new. Where that was
-- planned, and the disk isn't full, it has what the plan says.
pub record MayBeStored (b : ℕ) (bytes : List ℕ) (old new : Seen) : Type 0 where
  pub now : IsTrue old.tells → StoredOrNot b bytes old.now new.now
  pub as_planned : AsPlanned b bytes old new
  pub rose : Rose old.faults new.faults

-- n steps in order, the first one's number is 0
abbrev pub InOrder : {X : Type 0} → (ℕ → X → X → Type 0) → ℕ → X → X → Type 0
InOrder step zero old new = new ≡ old
InOrder {X = X} step (suc n) old new = (mid : X) × (InOrder step n old mid × step n mid new)

-- n steps in order, and then a last one of another kind
abbrev pub EndsAt : {X : Type 0} → (ℕ → X → X → Type 0) → (ℕ → X → X → Type 0) → ℕ → X → X → Type 0
EndsAt {X = X} step final n old new = (mid : X) × (InOrder step n old mid × final n mid new)

-- n blocks from block b on are of this disk's stripe, in one group of sixteen, and inside the image
pub record IsRun (disk : Seen) (b n : ℕ) : Type 0 where
  pub here : stripe_of b ≡ disk.stripe
  pub group : b % 16 + n ≤ 16
  pub inside : (b + n) * disk.align ≤ disk.size

-- block i of a run was read into its part of the bytes, or the disk refused
pub record LoadsAt (align b : ℕ) (bytes : List ℕ) (i : ℕ) (old new : Seen) : Type 0 where
  pub reads : Reads old new
  pub content : IsContent old new (b + i) (part bytes (i * align) align)

pub record LoadFailsAt (align : ℕ) (bytes : List ℕ) (i : ℕ) (old new : Seen) : Type 0 where
  pub reads : Reads old new
  pub refuses : Refuses old new (part bytes (i * align) align)

-- block i of a run was written from its part of the bytes, or the disk refused
pub record StoresAt (align b : ℕ) (bytes : List ℕ) (i : ℕ) (old new : Seen) : Type 0 where
  pub writes : Writes (b + i) (part bytes (i * align) align) old new
  pub stored : IsStored (b + i) (part bytes (i * align) align) old new

pub record StoreFailsAt (align b : ℕ) (bytes : List ℕ) (i : ℕ) (old new : Seen) : Type 0 where
  pub writes : Writes (b + i) (part bytes (i * align) align) old new
  pub stored : MayBeStored (b + i) (part bytes (i * align) align) old new

-- the loads of a run of n blocks up to one that failed, with so many done before it
pub record LoadsEnd (align b n : ℕ) (bytes : List ℕ) (done : ℕ) (old new : Seen) : Type 0 where
  pub before : done < n
  pub ends : EndsAt (LoadsAt align b bytes) (LoadFailsAt align bytes) done old new

pub record StoresEnd (align b n : ℕ) (bytes : List ℕ) (done : ℕ) (old new : Seen) : Type 0 where
  pub before : done < n
  pub ends : EndsAt (StoresAt align b bytes) (StoreFailsAt align b bytes) done old new
