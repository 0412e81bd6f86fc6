-- The image that requests go to, and the memory that one works in.
use Rattle.std.specs.Prelude.{◌≡◌, ℕ, ◌%◌, ◌^◌, ◌≤◌, ◌⊎◌, length}
use Rattle.qs_request_state.specs.declared.shape.Shape.{Shape}
use Rattle.qs_request_state.specs.declared.shape.Blocks.{Blocks}

-- blocks of 512 or 4096 bytes; the image is whole blocks, and of at most 2^40 bytes
pub record IsShape (s : Shape) : Type 0 where
  pub align : (s.align ≡ 512) ⊎ (s.align ≡ 4096)
  pub whole : s.size % s.align ≡ 0
  pub small : s.size ≤ 2 ^ 40

-- one block to work in, and room for two pads
pub record IsRoom (A : ℕ) (blocks : Blocks) : Type 0 where
  pub work : length blocks.work ≡ A
  pub head : length blocks.head ≡ A
  pub tail : length blocks.tail ≡ A
