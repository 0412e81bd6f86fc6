-- Disks in memory that keep each store since the last sync, so that a crash can be played.
use Rattle.std.specs.Prelude.{◌≡◌, ℕ, ◌==◌, ◌<◌, true, List, [], ◌∷◌, Some, length, map, filter, take, drop, nat_le, slice_index_or}
use Rattle.qs_outside.specs.declared.rigged_disk.Plans.{Plans}
use Rattle.qs_outside.specs.Blocks.{Fixed, IsBlock, Seen}
use Rattle.qs_outside.specs.Held.{Held, block_of, quiet_seen}

-- a store that is kept
pub record KeptStore : Type 0 where
  pub block : ℕ
  pub bytes : List ℕ

-- What the blocks hold, what they held at the last sync, the stores since then in their order, how many
-- of them are kept at most, how many calls failed, and the failures that are planned.
pub record Journal : Type 0 where
  pub now : Held
  pub synced : Held
  pub stores : List KeptStore
  pub room : ℕ
  pub faults : ℕ
  pub planned : Plans

-- the contents that were stored in a block, in their order
abbrev pub contents_of : ℕ → List KeptStore → List (List ℕ)
contents_of b stores = map (λ s. s.bytes) (filter (λ s. s.block == b) stores)

-- what a crash may leave of a block: its content at the last sync, or one that was stored since
abbrev pub past_of : Journal → ℕ → List (List ℕ)
past_of disk b = block_of disk.synced b ∷ contents_of b disk.stores

-- what such a disk means; it is full where it keeps as many stores as it can
abbrev pub journal_seen : Journal → Seen
journal_seen disk = record {
  stripe = disk.now.stripe;
  align = disk.now.align;
  size = disk.now.size;
  faults = disk.faults;
  tells = true;
  now = block_of disk.now;
  past = past_of disk;
  planned = Some disk.planned;
  full = Some (nat_le disk.room (length disk.stores));
}

-- the stores that a disk keeps as the numbers of their blocks and, one after another, the blocks' bytes
abbrev pub kept_of : ℕ → List ℕ → List ℕ → List KeptStore
kept_of align [] bytes = []
kept_of align (b ∷ blocks) bytes = record { block = b; bytes = take align bytes }
    ∷ kept_of align blocks (drop align bytes)

-- a list of stores, each of a block of so many bytes, with a limit on their number
pub record KeptStores : Type 0 where
  pub align : ℕ
  pub room : ℕ
  pub stores : List KeptStore

-- one store of a list, which there is
abbrev pub store_at : List KeptStore → ℕ → KeptStore
store_at stores j = slice_index_or stores j (record { block = 0; bytes = [] })

-- a store is of a whole block of a disk
pub record IsStoreOf (disk : Held) (store : KeptStore) : Type 0 where
  pub block : IsBlock (quiet_seen disk) store.block
  pub whole : length store.bytes ≡ disk.align

abbrev pub AreStoresOf : Held → List KeptStore → Type 0
AreStoresOf disk stores = (j : ℕ) → j < length stores → IsStoreOf disk (store_at stores j)

-- two sets of blocks are of one disk, and its stores are of whole blocks of it
pub record IsOneDisk (now synced : Held) (align : ℕ) (kept : List KeptStore) : Type 0 where
  pub fixed : Fixed (quiet_seen synced) (quiet_seen now)
  pub room : length synced.bytes ≡ length now.bytes
  pub align_is : align ≡ now.align
  pub stores : AreStoresOf synced kept
