-- When eight disks are an image, and which rule they break first if they aren't.
use Rattle.std.specs.Prelude.{◌≡◌, ◌≢◌, ℕ, ◌%◌, ◌^◌, ◌<◌, ◌≤◌, ◌⊎◌, List, length, Option, None, Some}
use Rattle.qs_status.specs.declared.status.OpenBad.{OpenBad}
use Rattle.qs_status.specs.declared.status.OpenBad.TheVariants.{Count, Different, Align, Length, TooLarge}
use Rattle.qs_outside.specs.Blocks.{Seen}
use Rattle.qs_image.specs.Image.{disk, align_of, size_of}

-- disk k is of stripe k, and of the first one's alignment and size
pub record IsAlike (disks : List Seen) (k : ℕ) : Type 0 where
  pub align : (disk disks k).align ≡ align_of disks
  pub size : (disk disks k).size ≡ size_of disks
  pub stripe : (disk disks k).stripe ≡ k

abbrev pub AllAlike : List Seen → ℕ → Type 0
AllAlike disks n = (k : ℕ) → k < n → IsAlike disks k

-- a block is 512 or 4096 bytes
abbrev pub IsAlign : ℕ → Type 0
IsAlign align = (align ≡ 512) ⊎ (align ≡ 4096)

-- the first rule on sizes that is broken, in the order of the lines
abbrev pub SizeFaults : ℕ → ℕ → Option OpenBad → Type 0
SizeFaults align size (Some (Align bad)) = (bad ≡ align) × ¬ IsAlign align
SizeFaults align size (Some (Length bad)) = (bad ≡ size) × IsAlign align × (size % align ≢ 0)
SizeFaults align size (Some (TooLarge bad)) = (bad ≡ size) × IsAlign align × (size % align ≡ 0) × (2 ^ 40 < size)
SizeFaults align size (Some (Count n)) = ⊥
SizeFaults align size (Some (Different k)) = ⊥
SizeFaults align size None = IsAlign align × (size % align ≡ 0) × (size ≤ 2 ^ 40)

-- eight disks of the stripes 0 to 7, each of the first one's alignment and size
abbrev pub AreStripes : List Seen → Type 0
AreStripes disks = (length disks ≡ 8) × AllAlike disks 8

-- eight disks of the stripes 0 to 7 that hold whole blocks, at most 2^40 bytes
abbrev pub IsImage : List Seen → Type 0
IsImage disks = AreStripes disks × SizeFaults (align_of disks) (size_of disks) None

-- the first rule that is broken: their number, each one's likeness to the first, sizes
abbrev pub Opens : List Seen → Option OpenBad → Type 0
Opens disks (Some (Count n)) = (n ≡ length disks) × (n ≢ 8)
Opens disks (Some (Different k)) = (length disks ≡ 8) × (k < 8) × AllAlike disks k × ¬ IsAlike disks k
Opens disks (Some (Align bad)) = AreStripes disks × SizeFaults (align_of disks) (size_of disks) (Some (Align bad))
Opens disks (Some (Length bad)) = AreStripes disks × SizeFaults (align_of disks) (size_of disks) (Some (Length bad))
Opens disks (Some (TooLarge bad)) = AreStripes disks × SizeFaults (align_of disks) (size_of disks) (Some (TooLarge bad))
Opens disks None = IsImage disks
