-- Where a request goes that syncs, or has stored a block.
use Rattle.std.proofs.Common.{◌≡◌, ℕ, zero, suc, ◌+◌, ◌-◌, ◌<◌, ◌≤◌, true, false, ◌==◌, arith}
use Rattle.qs_bytes.specs.declared.ask.Verdict.TheVariants.{Fine}
use Rattle.qs_part.specs.declared.stripe.Side.TheVariants.{Tail}
use Rattle.qs_model.specs.Requests.{Client, Step, ToStore, ToSync, ToEnd, edge, syncs, to_sync, stored, synced}
use Rattle.qs_model.proofs.Basics.{choose}

-- it ends, or syncs one of the eight stripes
pub to_sync_is : (P : Step → Type 0) (A : ℕ) (c : Client) (n : ℕ) → n ≤ 8 → P (ToEnd Fine) → ((s : ℕ) → s < 8 → P (ToSync s)) → P (to_sync A c n)
unfolding to_sync
to_sync_is P A c zero few over sync = over
to_sync_is P A c (suc n) few over sync = choose P (syncs A c (7 - n)) _ _ (λ e. sync (7 - n) (omega arith)) (λ e. to_sync_is P A c n (omega arith) over sync)

pub synced_is : (P : Step → Type 0) (A : ℕ) (c : Client) (s : ℕ) → P (ToEnd Fine) → ((t : ℕ) → t < 8 → P (ToSync t)) → P (synced A c s)
unfolding synced
synced_is P A c s over sync = to_sync_is P A c (7 - s) (omega arith) over sync

-- behind its last block it ends or syncs, else it stores the next one
pub stored_is : (P : Step → Type 0) (A : ℕ) (c : Client) (b : ℕ) → ((b == edge A c Tail) ≡ true → P (ToEnd Fine)) →
    ((b == edge A c Tail) ≡ true → (s : ℕ) → s < 8 → P (ToSync s)) → ((b == edge A c Tail) ≡ false → P (ToStore (b + 1))) → P (stored A c b)
unfolding stored
stored_is P A c b over sync more =
    choose P (b == edge A c Tail) _ _
    (λ e. choose P c.ask.fua _ _ (λ f. to_sync_is P A c 8 (omega arith) (over e) (sync e)) (λ f. over e)) more
