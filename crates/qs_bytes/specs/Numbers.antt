-- Numbers as bytes, the most significant byte first, as the NBD protocol has them (proto.md, "Conventions").
use Rattle.std.specs.Prelude.{ℕ, List}
use Rattle.std.specs.Int.{w16, w32, w64, to_be_bytes, from_be_bytes}
use Rattle.qs_bytes.specs.Pieces.{part}

unfoldable pub bytes16 : ℕ → List ℕ
bytes16 n = to_be_bytes w16 n

unfoldable pub bytes32 : ℕ → List ℕ
bytes32 n = to_be_bytes w32 n

unfoldable pub bytes64 : ℕ → List ℕ
bytes64 n = to_be_bytes w64 n

-- the number that the two bytes at a place spell
unfoldable pub number16 : List ℕ → ℕ → ℕ
number16 bytes at = from_be_bytes w16 (part bytes at 2)

unfoldable pub number32 : List ℕ → ℕ → ℕ
number32 bytes at = from_be_bytes w32 (part bytes at 4)

unfoldable pub number64 : List ℕ → ℕ → ℕ
number64 bytes at = from_be_bytes w64 (part bytes at 8)
