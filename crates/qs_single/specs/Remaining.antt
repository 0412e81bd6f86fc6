-- What a crash may leave of the bytes behind one request of the client.
use Rattle.std.specs.Prelude.{◌≡◌, ℕ, ◌+◌, ◌-◌, ◌/◌, ◌%◌, ◌<◌, ◌≤◌, ◌⊎◌, true, List, [], ◌∷◌, get_or}
use Rattle.std.specs.List.{Contains}
use Rattle.qs_bytes.specs.Geometry.{stripe_of}
use Rattle.qs_bytes.specs.declared.ask.Ask.{Ask}
use Rattle.qs_bytes.specs.declared.ask.Errno.TheVariants.{Io}
use Rattle.qs_bytes.specs.declared.ask.Kind.TheVariants.{Flush}
use Rattle.qs_bytes.specs.declared.ask.Verdict.{Verdict}
use Rattle.qs_bytes.specs.declared.ask.Verdict.TheVariants.{Fine, Refused}
use Rattle.qs_outside.specs.Blocks.{Seen}
use Rattle.qs_image.specs.Image.{align_of, block_now, block_past, content, size_of}
use Rattle.qs_model.specs.Requests.{stores_bytes}
use Rattle.qs_world.specs.Images.{stripe_at}
use Rattle.qs_world.specs.Values.{WorldValue, disks_of, stripes_of}
use Rattle.qs_single.specs.Service.{bytes_stored}

-- a crash of these disks may leave the byte u at x: a content that may be left of its block has it there
pub record IsLeftAt (disks : List Seen) (x u : ℕ) : Type 0 where
  pub block : List ℕ
  pub left : Contains (block_past disks (x / align_of disks)) block
  pub byte : get_or block (x % align_of disks) 0 ≡ u

-- the request stores the byte u at x
pub record IsStoredAt (a : Ask) (given : List ℕ) (x u : ℕ) : Type 0 where
  pub stores : stores_bytes a.kind ≡ true
  pub from : a.offset ≤ x
  pub below : x < a.offset + a.length
  pub byte : get_or (bytes_stored a given) (x - a.offset) 0 ≡ u

-- of every block a crash leaves what it holds
abbrev pub IsSettled : List Seen → Type 0
IsSettled disks = (b : ℕ) → block_past disks b ≡ block_now disks b ∷ []

-- and so of every block of a stripe that is clean: that stored nothing since its last sync
abbrev pub IsCleanSettled : {D : Type 0} → (D → Seen) → WorldValue D → Type 0
IsCleanSettled seen w = (b : ℕ) → (stripe_at (stripes_of seen w) (stripe_of b)).clean ≡ true →
    block_past (disks_of seen w) b ≡ block_now (disks_of seen w) b ∷ []

-- Behind a request a crash may leave of a byte what it might leave before, the byte as it was or as it is, or, where
-- the request was EIO, what it stores there. Behind a FLUSH that is Fine it leaves of every block what it holds.
pub record Outlasts (old : List Seen) (a : Ask) (given : List ℕ) (v : Verdict) (new : List Seen) : Type 0 where
  pub left : (x u : ℕ) → x < size_of old → IsLeftAt new x u →
      IsLeftAt old x u ⊎ ((get_or (content old) x 0 ≡ u)
      ⊎ ((get_or (content new) x 0 ≡ u) ⊎ ((v ≡ Refused Io) × IsStoredAt a given x u)))
  pub flushed : a.kind ≡ Flush → v ≡ Fine → IsSettled new
