-- Disks in memory: the blocks of one stripe, one after another in one list of bytes.
use Rattle.std.specs.Prelude.{◌≡◌, ℕ, ◌+◌, ◌*◌, ◌/◌, ◌%◌, ◌==◌, if◌then◌else◌, true, List, [], ◌∷◌, None, replicate}
use Rattle.std.specs.Int.{div_ceil}
use Rattle.qs_bytes.specs.Pieces.{part}
use Rattle.qs_outside.specs.Blocks.{Seen, IsBlock}
use Rattle.qs_bytes.specs.Geometry.{stripe_of}

-- the stripe, the bytes of a block and of the image, and the stripe's blocks in order
pub record Held : Type 0 where
  pub stripe : ℕ
  pub align : ℕ
  pub size : ℕ
  pub bytes : List ℕ

-- which one of its stripe's blocks a block is, counted from 0
abbrev pub holder_rank : ℕ → ℕ
holder_rank b = b / 128 * 16 + b % 16

-- what a block holds, which is nothing where it is of another stripe
unfoldable pub block_of : Held → ℕ → List ℕ
block_of held b = if stripe_of b == held.stripe then part held.bytes (holder_rank b * held.align) held.align else []

-- a stripe's blocks of zeros, in whole rounds of the eight stripes
abbrev pub zeros_of : ℕ → ℕ → ℕ → Held
zeros_of stripe align size = record {
  stripe = stripe;
  align = align;
  size = size;
  bytes = replicate (div_ceil (size / align) 128 * 16 * align) 0;
}

-- what a disk means that writes through and never fails
abbrev pub quiet_seen : Held → Seen
quiet_seen held = record {
  stripe = held.stripe;
  align = held.align;
  size = held.size;
  faults = 0;
  tells = true;
  now = block_of held;
  past = λ b. block_of held b ∷ [];
  planned = None;
  full = None;
}

-- a fresh disk of zeros, of whose blocks a crash leaves just what they hold
pub record IsZeros (stripe align size : ℕ) (disk : Seen) : Type 0 where
  pub stripe_is : disk.stripe ≡ stripe
  pub align_is : disk.align ≡ align
  pub size_is : disk.size ≡ size
  pub faults : disk.faults ≡ 0
  pub tells : disk.tells ≡ true
  pub now : (b : ℕ) → IsBlock disk b → disk.now b ≡ replicate align 0
  pub past : (b : ℕ) → disk.past b ≡ disk.now b ∷ []
