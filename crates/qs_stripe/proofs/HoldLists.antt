-- Laws of lists of holds.
use Rattle.std.proofs.Common.{◌≡◌, ℕ, replicate, ap, arith, inl, inr}
use Rattle.std.specs.Prelude.{None, slice_index_or}
use Rattle.std.proofs.lemmas.List.{get_or-replicate, get_or_past, length-replicate}
use Rattle.std.proofs.lemmas.Bool.{cases_lt}
use Rattle.qs_part.specs.declared.stripe.Side.{Side}
use Rattle.qs_part.specs.declared.stripe.Side.TheVariants.{Head, Tail}
use Rattle.qs_stripe.specs.declared.holds.Ends.{Ends}
use Rattle.qs_stripe.specs.Holds.{EmptyFrom, holds_of, no_ends}

no_ends-replicate : (n k : ℕ) → slice_index_or (replicate n no_ends) k no_ends ≡ no_ends
no_ends-replicate n k =
    elim (cases_lt k n) [
      | inl below ↦ get_or-replicate n k no_ends no_ends below
      | inr past ↦ get_or_past (replicate n no_ends) k no_ends (omega (arith, length-replicate n no_ends))
    ]

-- places that hold nothing
pub holds_of-replicate : (n k : ℕ) (side : Side) → holds_of (replicate n no_ends) k side ≡ None
holds_of-replicate n k Head = ap (λ (e : Ends). e.head) (no_ends-replicate n k)
holds_of-replicate n k Tail = ap (λ (e : Ends). e.tail) (no_ends-replicate n k)

pub all_empty : (n : ℕ) → EmptyFrom 0 (replicate n no_ends)
all_empty n k h = no_ends-replicate n k
