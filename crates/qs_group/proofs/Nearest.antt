-- The search for the member whose turn it is.
use Rattle.std.proofs.Common.{◌≡◌, ◌≢◌, ℕ, ◌<◌, ◌≤◌, List, [], ◌∷◌, ◌++◌, ◌⊎◌, inl, inr, arith, length, get_or, take}
use Rattle.std.specs.Prelude.{All}
use Rattle.qs_part.specs.declared.group.Dir.{Dir}
use Rattle.qs_group.specs.declared.queue.Queued.{Queued}
use Rattle.qs_group.specs.Queue.{InRange, Queues, round}
use Rattle.qs_group.proofs.Lookups.{queues_more, queues_at}

-- the nearest member to the turn, of those seen that have a request of this direction
pub record Nearest (ws seen : List Queued) (turn : ℕ) (d : Dir) (m : ℕ) : Type 0 where
  pub below : m < 64
  pub queues : Queues ws d m
  pub first : (k : ℕ) → Queues seen d k → round turn m ≤ round turn k

-- one request more is seen, of another direction
pub nearest_other : (ws seen : List Queued) (w : Queued) (turn : ℕ) (d : Dir) (m : ℕ) → w.dir ≢ d → Nearest ws seen turn d m →
    Nearest ws (seen ++ w ∷ []) turn d m
nearest_other ws seen w turn d m other near = record { below = near.below; queues = near.queues; first = λ k h. go k (queues_more seen w d k h) }
  where
    go : (k : ℕ) → Queues seen d k ⊎ ((w.member ≡ k) × (w.dir ≡ d)) → round turn m ≤ round turn k
    go k (inl h) = near.first k h
    go k (inr h) = absurd (other h.1)

-- one request more is seen: the nearer of the two
pub nearest_one : (ws seen : List Queued) (w : Queued) (turn : ℕ) (d : Dir) (m n : ℕ) → n < 64 → Queues ws d n →
    round turn n ≤ round turn m → round turn n ≤ round turn w.member → Nearest ws seen turn d m → Nearest ws (seen ++ w ∷ []) turn d n
nearest_one ws seen w turn d m n below queues to_m to_w near = record { below = below; queues = queues; first = λ k h. go k (queues_more seen w d k h) }
  where
    go : (k : ℕ) → Queues seen d k ⊎ ((w.member ≡ k) × (w.dir ≡ d)) → round turn n ≤ round turn k
    go k (inl h) = omega (arith, near.first k h)
    go k (inr h) = rw (← h.0) to_w

-- the request at place i is seen
pub nearest_seen : (ws : List Queued) (i : ℕ) (o : Queued) (turn : ℕ) (d : Dir) (m n : ℕ) → i < length ws → (get_or ws i o).dir ≡ d →
    All InRange ws → (n ≡ m) ⊎ (n ≡ (get_or ws i o).member) → round turn n ≤ round turn m → round turn n ≤ round turn (get_or ws i o).member →
    Nearest ws (take i ws) turn d m → Nearest ws (take i ws ++ get_or ws i o ∷ []) turn d n
nearest_seen ws i o turn d m n h same all (inl is) to_m to_w near =
    nearest_one ws (take i ws) (get_or ws i o) turn d m n (omega (arith, near.below)) (rw is near.queues) to_m to_w near
nearest_seen ws i o turn d m n h same all (inr is) to_m to_w near =
    nearest_one ws (take i ws) (get_or ws i o) turn d m n (omega (arith, (all i o h).member)) (rw (is, ← same) (queues_at ws i o h)) to_m to_w near
