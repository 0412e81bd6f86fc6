-- Runs on a disk that tells neither its content nor its plans.
use Rattle.std.proofs.Common.{◌≡◌, ℕ, zero, suc, ◌+◌, ◌*◌, ◌<◌, ◌≤◌, false, None, List, [], length, drop, refl, sym, arith, true≢false}
use Rattle.std.specs.Prelude.{IsTrue}
use Rattle.std.proofs.Math.Nat.{mul-le-mul_right}
use Rattle.std.proofs.lemmas.List.{length-drop, length-take-le}
use Rattle.qs_bytes.specs.Pieces.{part}
use Rattle.qs_outside.specs.Blocks.{Seen, Fixed}
use Rattle.qs_outside.specs.Runs.{InOrder, LoadsAt, StoresAt}

-- such a disk
abbrev untold : (stripe align size faults : ℕ) → Seen
untold stripe align size faults =
    record { stripe = stripe; align = align; size = size; faults = faults; tells = false; now = λ b. []; past = λ b. []; planned = None; full = None }

never : {X : Type 0} → IsTrue false → X
never told = absurd (true≢false (sym told))

same : (disk : Seen) → Fixed disk disk
same disk = record { stripe = refl; align = refl; size = refl; tells = refl }

-- a block's part of the bytes of a run
part-whole : (align n i : ℕ) (bytes : List ℕ) → length bytes ≡ n * align → i < n → length (part bytes (i * align) align) ≡ align
part-whole align n i bytes whole below =
    let next : (i + 1) * align ≤ n * align = mul-le-mul_right align (omega (arith, below)) in
    length-take-le align (drop (i * align) bytes) (omega (arith, next, whole, length-drop (i * align) bytes))

loads-untold : (stripe align size faults b all n : ℕ) (bytes : List ℕ) → length bytes ≡ all * align → n ≤ all
    → InOrder (LoadsAt align b bytes) n (untold stripe align size faults) (untold stripe align size faults)
loads-untold stripe align size faults b all zero bytes whole within = refl
loads-untold stripe align size faults b all (suc n) bytes whole within =
    let disk = untold stripe align size faults in (
      disk,
      (
        loads-untold stripe align size faults b all n bytes whole (omega (arith, within)),
        record {
          reads = record { fixed = same disk; now = λ told. never told; past = λ told. never told; planned = refl; full = refl; later = omega arith };
          content = record { whole = part-whole align all n bytes whole (omega (arith, within)); now = λ told. never told; works = refl; kept = refl };
        },
      ),
    )

-- one call of the file that went well is a load of each block
pub loads-all : (stripe align size faults b n : ℕ) (bytes : List ℕ) → length bytes ≡ n * align
    → InOrder (LoadsAt align b bytes) n (untold stripe align size faults) (untold stripe align size faults)
loads-all stripe align size faults b n bytes whole = loads-untold stripe align size faults b n n bytes whole (omega arith)

-- and a store of each block
pub stores-all : (stripe align size faults b n : ℕ) (bytes : List ℕ)
    → InOrder (StoresAt align b bytes) n (untold stripe align size faults) (untold stripe align size faults)
stores-all stripe align size faults b zero bytes = refl
stores-all stripe align size faults b (suc n) bytes =
    let disk = untold stripe align size faults in (
      disk,
      (
        stores-all stripe align size faults b n bytes,
        record {
          writes = record { fixed = same disk; past = λ told. never told; past_now = λ told. never told; planned = refl; later = omega arith };
          stored = record { now = λ told. never told; works = refl; kept = refl };
        },
      ),
    )
