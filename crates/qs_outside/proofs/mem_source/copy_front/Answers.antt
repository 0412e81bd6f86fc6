use Rattle.std.proofs.Common.{◌≡◌, ℕ, ◌≤◌, List, ◌++◌, length, take, drop, arith, sym, ap, ◌∙◌}
use Rattle.std.proofs.lemmas.List.{take-append-drop, take_at, take_rest, length-take-le, drop-drop}
use Rattle.qs_outside.proofs.mem_source.copy_front.Goals as goal

-- the front of a list, written over the front of another, and what lies behind it are that list
copied_front : (from rest piece : List ℕ) (n : ℕ) → piece ≡ take n from → n ≤ length from → from ≡ take n (piece ++ rest) ++ drop n from
copied_front from rest piece n e h =
    let same : length piece ≡ n = ap length e ∙ length-take-le n from h in
    rw (take_at piece rest n same) (rw e (sym (take-append-drop n from)))

pub returns-clause-copied : goal.returns-clause-copied
returns-clause-copied c =
    let least = rw (take_rest c.args.bytes.now c.args.at) at c.min.ensures in
    rw (← drop-drop c.min-n.result c.args.at c.args.bytes.now)
    (copied_front _ _ _ _ (rw (take_rest c.args.bytes.now c.args.at) at c.copy_from_slice.ensures.after) (omega (arith, least)))
