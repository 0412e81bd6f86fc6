-- The disks that hold one image.
use Rattle.std.specs.Prelude.{ℕ, List, map}
use Rattle.std.specs.List.{range_with_len}

-- the number of a disk's stripe, and the bytes of a block and of the whole image
abbrev pub Shape : Type 0
Shape = ℕ × ℕ × ℕ

-- so many disks of one image, in the order of their stripes
abbrev pub stripes : ℕ → ℕ → ℕ → List Shape
stripes count align length = map {B = Shape} (λ k. (k, align, length)) (range_with_len 0 count)
