-- A session's name in its fixed room.
use Rattle.std.proofs.Common.{ℕ, ◌-◌, ◌≤◌, List, [], ◌∷◌, length, arith, length-append}
use Rattle.std.proofs.lemmas.List.{length-replicate}
use Rattle.std.proofs.Math.Seq.{drop-append_seam, take-append_seam}
use Rattle.std.specs.Prelude.{replicate}
use Rattle.qs_script.specs.SessionNames.{IsSessionName}
use Rattle.qs_script.specs.StoredNames.{IsStored, stored}

-- it has at most 8 bytes
pub short_name : (xs : List ℕ) → IsSessionName xs → length xs ≤ 8
short_name [] is = absurd is
short_name (x ∷ xs) is = let h = is.0 in omega arith

-- what a name's bytes and the zeros behind them keep
pub is_stored : (xs : List ℕ) → IsSessionName xs → IsStored (stored xs)
is_stored xs is = record {
  short = short_name xs is;
  room = let short = short_name xs is in simp (length-append, length-replicate) (omega arith);
  zeros = drop-append_seam xs (replicate (8 - length xs) 0);
  name = rw take-append_seam is;
}
