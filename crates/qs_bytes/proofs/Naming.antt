-- A name in its fixed room.
use Rattle.std.proofs.Common.{ℕ, ◌-◌, ◌≤◌, List, length, arith, length-append}
use Rattle.std.proofs.lemmas.List.{length-replicate}
use Rattle.std.proofs.Math.Seq.{drop-append_seam, take-append_seam}
use Rattle.std.specs.Prelude.{replicate}
use Rattle.std.specs.Str.{IsUtf8}
use Rattle.qs_bytes.specs.Stored.{IsStored, stored}

-- what a name's bytes and the zeros behind them keep
pub is_stored : (xs : List ℕ) → length xs ≤ 63 → IsUtf8 xs → IsStored (stored xs)
is_stored xs short utf8 = record {
  short = short;
  room = simp (length-append, length-replicate) (omega arith);
  zeros = drop-append_seam xs (replicate (63 - length xs) 0);
  utf8 = rw take-append_seam utf8;
}
