-- The blocks that requests hold: each place of a request has two places for holds, one for each end
-- of its span.
use Rattle.std.specs.Prelude.{◌≡◌, ◌≢◌, ℕ, ◌+◌, ◌<◌, ◌≤◌, ◌⊎◌, ◌==◌, if◌then◌else◌, List, Option, Some, None, slice_index_or}
use Rattle.qs_part.specs.declared.stripe.Side.{Side}
use Rattle.qs_part.specs.declared.stripe.Side.TheVariants.{Head, Tail}
use Rattle.qs_stripe.specs.declared.holds.Ends.{Ends}

abbrev pub held_at_end : Ends → Side → Option ℕ
held_at_end ends Head = ends.head
held_at_end ends Tail = ends.tail

abbrev pub no_ends : Ends
no_ends = record { head = None; tail = None }

-- with a block at an end
abbrev pub ends_with : Ends → Side → ℕ → Ends
ends_with ends Head b = record ends { head = Some b }
ends_with ends Tail b = record ends { tail = Some b }

-- what is left of a hold where block b is given up
abbrev pub hold_left : Option ℕ → ℕ → Option ℕ
hold_left None b = None
hold_left (Some c) b = if c == b then None else Some c

abbrev pub ends_without : Ends → ℕ → Ends
ends_without ends b = record { head = hold_left ends.head b; tail = hold_left ends.tail b }

-- the holds of a list of places
abbrev pub holds_of : List Ends → ℕ → Side → Option ℕ
holds_of places k side = held_at_end (slice_index_or places k no_ends) side

-- place n and those behind it hold nothing
abbrev pub EmptyFrom : ℕ → List Ends → Type 0
EmptyFrom n places = (k : ℕ) → n ≤ k → slice_index_or places k no_ends ≡ no_ends

-- one place holds the block
abbrev pub HasBlock : Ends → ℕ → Type 0
HasBlock ends b = (ends.head ≡ Some b) ⊎ (ends.tail ≡ Some b)

-- place k holds block b, at its head or at its tail
abbrev pub IsHeld : (ℕ → Side → Option ℕ) → ℕ → ℕ → Type 0
IsHeld hold k b = (hold k Head ≡ Some b) ⊎ (hold k Tail ≡ Some b)

-- no place holds the block
abbrev pub IsFree : (ℕ → Side → Option ℕ) → ℕ → Type 0
IsFree hold b = (j : ℕ) → IsHeld hold j b → ⊥

-- no place but k holds the block
abbrev pub IsFreeFor : (ℕ → Side → Option ℕ) → ℕ → ℕ → Type 0
IsFreeFor hold k b = (j : ℕ) → IsHeld hold j b → j ≡ k

-- k holds b at this end now, and every other hold is as it was
pub record Takes (k : ℕ) (side : Side) (b : ℕ) (old new : ℕ → Side → Option ℕ) : Type 0 where
  pub here : new k side ≡ Some b
  pub others : (j : ℕ) (end : Side) → (j ≢ k) ⊎ (end ≢ side) → new j end ≡ old j end

-- k doesn't hold b any more, and every other hold is as it was
pub record LetsGo (k b : ℕ) (old new : ℕ → Side → Option ℕ) : Type 0 where
  pub gone : (side : Side) → old k side ≡ Some b → new k side ≡ None
  pub others : (j : ℕ) (side : Side) → (j ≢ k) ⊎ (old j side ≢ Some b) → new j side ≡ old j side

-- of n blocks from block b on, place j, which isn't k, holds the one behind m others, which are free for k
pub record IsFirstHeld (hold : ℕ → Side → Option ℕ) (k b n m j : ℕ) : Type 0 where
  pub within : m < n
  pub before : (i : ℕ) → i < m → IsFreeFor hold k (b + i)
  pub here : IsHeld hold j (b + m)
  pub other : j ≢ k
