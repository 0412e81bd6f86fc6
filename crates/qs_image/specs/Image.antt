-- The image that eight disks hold, as one list of bytes, and what reading and writing it do.
use Rattle.std.specs.Prelude.{◌≡◌, ℕ, ◌+◌, ◌*◌, ◌/◌, ◌%◌, ◌<◌, ◌≤◌, false, IsTrue, List, [], None, Result, OnOk, OnErr, length, map, take, slice_index_or}
use Rattle.std.specs.List.{range_with_len}
use Rattle.qs_bytes.specs.Pieces.{part, overlay}
use Rattle.qs_outside.specs.Faults.{Rose}
use Rattle.qs_outside.specs.Blocks.{Seen, Same}
use Rattle.qs_bytes.specs.Geometry.{stripe_of}

-- what stands for a disk that isn't there
abbrev pub no_disk : Seen
no_disk = record {
  stripe = 0;
  align = 0;
  size = 0;
  faults = 0;
  tells = false;
  now = λ _. [];
  past = λ _. [];
  planned = None;
  full = None;
}

abbrev pub disk : List Seen → ℕ → Seen
disk disks k = slice_index_or disks k no_disk

-- the bytes of a block, and of the whole image, as the first disk tells them
abbrev pub align_of : List Seen → ℕ
align_of disks = (disk disks 0).align

abbrev pub size_of : List Seen → ℕ
size_of disks = (disk disks 0).size

-- what a block holds, on the disk of its stripe
abbrev pub block_now : List Seen → ℕ → List ℕ
block_now disks b = (disk disks (stripe_of b)).now b

-- what a crash may leave of a block, on the disk of its stripe
abbrev pub block_past : List Seen → ℕ → List (List ℕ)
block_past disks b = (disk disks (stripe_of b)).past b

-- the bytes of an image, block after block
unfoldable pub image : ℕ → ℕ → (ℕ → List ℕ) → List ℕ
image align size blocks = map (λ x. slice_index_or (blocks (x / align)) (x % align) 0) (range_with_len 0 size)

-- the content of the image
abbrev pub content : List Seen → List ℕ
content disks = image (align_of disks) (size_of disks) (block_now disks)

-- each disk tells its content
abbrev pub AllTell : List Seen → Type 0
AllTell disks = (k : ℕ) → k < 8 → IsTrue (disk disks k).tells

-- the same disks, some calls later
pub record SameDisks (old new : List Seen) : Type 0 where
  pub count : length new ≡ length old
  pub stripe : (k : ℕ) → (disk new k).stripe ≡ (disk old k).stripe
  pub align : (k : ℕ) → (disk new k).align ≡ (disk old k).align
  pub size : (k : ℕ) → (disk new k).size ≡ (disk old k).size
  pub tells : (k : ℕ) → (disk new k).tells ≡ (disk old k).tells
  pub later : (k : ℕ) → (disk old k).faults ≤ (disk new k).faults

-- block b has one of `count` bytes from a place on
pub record HasByte (align at count b : ℕ) : Type 0 where
  pub behind : at < (b + 1) * align
  pub before : b * align < at + count

-- The count of faults rose of a disk that has one of these bytes.
abbrev pub RoseAt : List Seen → ℕ → ℕ → List Seen → Type 0
RoseAt old at count new =
    (b : ℕ) × (HasByte (align_of old) at count b × Rose (disk old (stripe_of b)).faults (disk new (stripe_of b)).faults)

-- a front of the bytes was written, and nothing else
abbrev pub IsFrontWritten : List ℕ → ℕ → List ℕ → List ℕ → Type 0
IsFrontWritten old at bytes new = (n : ℕ) × ((n ≤ length bytes) × (new ≡ overlay old at (take n bytes)))

-- bytes were read from a place of the image on; nothing was written, and a crash leaves what it left before
pub record Loads {E : Type 0} (old : List Seen) (at : ℕ) (bytes : List ℕ) (result : Result Unit E)
    (new : List Seen) : Type 0 where
  pub bytes_are : AllTell old → OnOk result (bytes ≡ part (content old) at (length bytes))
  pub kept : AllTell old → content new ≡ content old
  pub past : AllTell old → Same (block_past old) (block_past new)
  pub same : SameDisks old new
  pub cause : OnErr result (RoseAt old at (length bytes) new)

-- bytes were written from a place of the image on; where that failed, a front of them at most
pub record Stores {E : Type 0} (old : List Seen) (at : ℕ) (bytes : List ℕ) (result : Result Unit E)
    (new : List Seen) : Type 0 where
  pub written : AllTell old → OnOk result (content new ≡ overlay (content old) at bytes)
  pub cut : AllTell old → OnErr result (IsFrontWritten (content old) at bytes (content new))
  pub same : SameDisks old new
  pub cause : OnErr result (RoseAt old at (length bytes) new)
