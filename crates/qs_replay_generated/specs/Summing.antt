-- The sum of an image's bytes, as its disks give them, block by block.
use Rattle.std.specs.Prelude.{◌≡◌, ℕ, ◌+◌, ◌*◌, ◌%◌, ◌^◌, ◌<◌, ◌⊎◌, List, [], ◌∷◌, length, map, slice_index_or}
use Rattle.qs_bytes.specs.Pieces.{part}
use Rattle.qs_outside.specs.Blocks.{Seen, Same}
use Rattle.qs_image.specs.Image.{AllTell, RoseAt, SameDisks, block_past, content}
use Rattle.qs_generate.specs.Sums.{weighted}

-- The blocks' bytes, one block behind the other from a place on: each byte times its place counted from 1. A block
-- has so many places, also where nothing is known of it.
unfoldable pub total : ℕ → ℕ → List (List ℕ) → ℕ
total align place [] = 0
total align place (bytes ∷ more) = weighted place bytes + total align (place + align) more

-- What was loaded of a block: its bytes; or none, where its load failed.
abbrev pub IsLoaded : List Seen → ℕ → ℕ → List ℕ → List Seen → Type 0
IsLoaded disks align b bytes disks' =
    ((length bytes ≡ align) × (AllTell disks → bytes ≡ part (content disks) (b * align) align))
    ⊎ ((bytes ≡ []) × RoseAt disks (b * align) align disks')

-- nothing was written, and a crash leaves what it left before
pub record Stays (disks disks' : List Seen) : Type 0 where
  pub kept : AllTell disks → content disks' ≡ content disks
  pub past : AllTell disks → Same (block_past disks) (block_past disks')
  pub same : SameDisks disks disks'

-- one block more was loaded, and its bytes were added to a sum
pub record AddsBlock (disks : List Seen) (align b sum sum' : ℕ) (disks' : List Seen) : Type 0 where
  pub bytes : List ℕ
  pub is : IsLoaded disks align b bytes disks'
  pub sum_is : sum' ≡ (sum + weighted (b * align) bytes) % 2 ^ 64
  pub stays : Stays disks disks'

-- The sum of the image's bytes, each times its place counted from 1, modulo 2^64: so many blocks were loaded, one
-- after the other, and one whose load failed adds nothing.
pub record SumsUp {D : Type 0} (seen : D → Seen) (align blocks : ℕ) (disks : List D) (sum : ℕ)
    (disks' : List D) : Type 0 where
  pub loaded : List (List ℕ)
  pub count : length loaded ≡ blocks
  pub each : (b : ℕ) → b < blocks → IsLoaded (map seen disks) align b (slice_index_or loaded b []) (map seen disks')
  pub sum_is : sum ≡ total align 0 loaded % 2 ^ 64
  pub stays : Stays (map seen disks) (map seen disks')
