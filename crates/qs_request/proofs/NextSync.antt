-- The stripes that a request syncs, one after the other.
use Rattle.std.proofs.Common.{◌≡◌, ℕ, suc, ◌-◌, ◌+◌, ◌<◌, ◌≤◌, Bool, true, false, ap, ◌∙◌, cond, arith}
use Rattle.qs_bytes.specs.declared.ask.Verdict.TheVariants.{Fine}
use Rattle.qs_model.specs.Requests.{Client, ToSync, ToEnd, syncs, synced, to_sync}

one_of : (A : ℕ) (c : Client) (n s : ℕ) → 7 - n ≡ s → to_sync A c (suc n) ≡ cond (syncs A c s) (ToSync s) (to_sync A c n)
unfolding to_sync
one_of A c n s is = ap (λ (t : ℕ). cond (syncs A c t) (ToSync t) (to_sync A c n)) is

-- this one
pub sync_here : (A : ℕ) (c : Client) (s : ℕ) → s < 8 → syncs A c s ≡ true → to_sync A c (8 - s) ≡ ToSync s
sync_here A c s lt is =
    ap (λ (n : ℕ). to_sync A c n) (omega (arith, lt)) ∙ one_of A c (7 - s) s (omega (arith, lt)) ∙ ap (λ (b : Bool). cond b (ToSync s) (to_sync A c (7 - s))) is

-- or none is left
pub sync_over : (A : ℕ) (c : Client) (s : ℕ) → 8 ≤ s → to_sync A c (8 - s) ≡ ToEnd Fine
unfolding to_sync
sync_over A c s past = let none : 8 - s ≡ 0 = omega (arith, past) in ap (λ (n : ℕ). to_sync A c n) none

-- what follows a stripe
pub sync_next : (A : ℕ) (c : Client) (s : ℕ) → to_sync A c (8 - (s + 1)) ≡ synced A c s
unfolding synced
sync_next A c s = ap (λ (n : ℕ). to_sync A c n) (omega arith)

-- or one behind it
pub sync_past : (A : ℕ) (c : Client) (s : ℕ) → s < 8 → syncs A c s ≡ false → to_sync A c (8 - s) ≡ to_sync A c (8 - (s + 1))
sync_past A c s lt is =
    ap (λ (n : ℕ). to_sync A c n) (omega (arith, lt)) ∙ one_of A c (7 - s) s (omega (arith, lt)) ∙ ap (λ (b : Bool). cond b (ToSync s) (to_sync A c (7 - s))) is
    ∙ ap (λ (n : ℕ). to_sync A c n) (omega (arith, lt))
