-- The disks in memory that a script is replayed over.
use Rattle.std.specs.Prelude.{◌≡◌, ℕ, ◌+◌, ◌*◌, ◌≤◌, ◌⊎◌, List, [], ◌∷◌, map, replicate, String}
use Rattle.std.specs.Global.{Global}
use Rattle.qs_bytes.specs.Geometry.{stripe_of}
use Rattle.qs_outside.specs.Held.{IsZeros}
use Rattle.qs_outside.specs.Journal.{Journal, journal_seen}
use Rattle.qs_outside.specs.Rigged.{no_plans}
use Rattle.qs_image.specs.Image.{AllTell, align_of, block_now, disk, size_of}
use Rattle.qs_image.specs.Opening.{IsImage}
use Rattle.qs_replay_words.specs.Words.{TellsWords}
use Rattle.qs_replay_words.specs.declared.words.ReplayWords.{ReplayWords}

-- how many stores each disk keeps
abbrev pub room_of_disks : ℕ
room_of_disks = 4096

-- a disk of zeros: of this stripe, block and image size, with no store kept, room for 4,096, and no failure planned
pub record IsZeroDisk (align size stripe : ℕ) (d : Journal) : Type 0 where
  pub zeros : IsZeros stripe align size (journal_seen d)
  pub empty : d.stores ≡ []
  pub room : d.room ≡ room_of_disks
  pub planned : d.planned ≡ no_plans

-- disks of the stripes from k on
abbrev pub AreFrom : ℕ → ℕ → ℕ → List Journal → Type 0
AreFrom align size k [] = Unit {0}
AreFrom align size k (d ∷ ds) = IsZeroDisk align size k d × AreFrom align size (k + 1) ds

-- An image of zeros on eight disks: they are an image of this block and size, tell their content, a crash leaves of
-- each block what it holds, each block inside is zeros, and each disk has room for as many stores.
pub record AreZeroDisks (align size : ℕ) (disks : List Journal) : Type 0 where
  pub image : IsImage (map journal_seen disks)
  pub align_is : align_of (map journal_seen disks) ≡ align
  pub size_is : size_of (map journal_seen disks) ≡ size
  pub telling : AllTell (map journal_seen disks)
  pub settled : (b : ℕ) → (disk (map journal_seen disks) (stripe_of b)).past b ≡ block_now (map journal_seen disks) b
      ∷ []
  pub zeros : (b : ℕ) → (b + 1) * align ≤ size → block_now (map journal_seen disks) b ≡ replicate align 0
  pub each : AreFrom align size 0 disks

-- The disks that the words of the command name, or none where they aren't of its form.
abbrev pub AreDisksOf : List (String Global) → List Journal → Type 0
AreDisksOf words disks =
    ((told : ReplayWords) × TellsWords words told × AreZeroDisks told.align (told.blocks * told.align) disks) ⊎
    (((told : ReplayWords) → TellsWords words told → ⊥) × (disks ≡ []))
