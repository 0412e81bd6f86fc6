-- How much a request may bring or ask for.
use Rattle.std.specs.Prelude.{ℕ}

-- the most bytes of a READ, and of the data that come with a WRITE (NBD proto.md, "Block size constraints")
abbrev pub max_payload : ℕ
max_payload = 33554432
