-- Which tickets are out.
use Rattle.std.proofs.Common.{◌≡◌, ◌≢◌, ℕ, ◌<◌, ◌≤◌, List, [], ◌∷◌, ◌++◌, length, get_or, set, Bool, true, false, cond, not, Option, Some, None, IsSome, refl, sym, ◌∙◌, ap, arith, zero, suc}
use Rattle.std.specs.Prelude.{All, position, ◌==◌, nat_lt, is_some}
use Rattle.std.specs.List.{position_or_len}
use Rattle.std.proofs.lemmas.Bool.Decides.{nat_tests}
use Rattle.std.proofs.lemmas.List.{get_or-set_same, get_or-set_other, length-set}
use Rattle.std.proofs.lemmas.List.Quantifiers.{position-Some}
use Rattle.std.proofs.lemmas.List.Sums.{fails_before_first}
use Rattle.qs_group.specs.declared.queue.Queued.{Queued}
use Rattle.qs_group.specs.Queue.{InRange, ShowsTickets, ticket_at, queue_without, IsLowestFree, IsLowestWaiting}
use Rattle.qs_group.proofs.Lookups.{out_more}

-- taking a request out leaves fewer
pub length_without : (ws : List Queued) (t : ℕ) → length (queue_without ws t) ≤ length ws
length_without [] t = omega arith
length_without (x ∷ ws) t = go (x.ticket == t) (length_without ws t)
  where
    go : (b : Bool) → length (queue_without ws t) ≤ length ws → length (cond (not b) (x ∷ queue_without ws t) (queue_without ws t)) ≤ length (x ∷ ws)
    go true rec = omega arith
    go false rec = omega arith

pub shorter_without : (ws : List Queued) (t : ℕ) → IsSome (ticket_at ws t) → length (queue_without ws t) < length ws
shorter_without [] t h = absurd (cc)
shorter_without (x ∷ ws) t h = go (x.ticket == t) (shorter_without ws t) h
  where
    go : (b : Bool) → (IsSome (ticket_at ws t) → length (queue_without ws t) < length ws) → IsSome (cond b (Some x) (ticket_at ws t)) →
        length (cond (not b) (x ∷ queue_without ws t) (queue_without ws t)) < length (x ∷ ws)
    go true rec f = omega (arith, length_without ws t)
    go false rec f = omega (arith, rec f)

-- the others keep their tickets
pub ticket_without : (ws : List Queued) (t u : ℕ) → u ≢ t → ticket_at (queue_without ws t) u ≡ ticket_at ws u
ticket_without [] t u h = refl
ticket_without (x ∷ ws) t u h = go (x.ticket == t) (x.ticket == u) refl refl (ticket_without ws t u h)
  where
    go : (b e : Bool) → (x.ticket == t) ≡ b → (x.ticket == u) ≡ e → ticket_at (queue_without ws t) u ≡ ticket_at ws u →
        ticket_at (cond (not b) (x ∷ queue_without ws t) (queue_without ws t)) u ≡ cond e (Some x) (ticket_at ws u)
    go true true f g rec = absurd (h (grind (arith, nat_tests)))
    go true false f g rec = rec
    go false e f g rec = rw g (ap (λ (o : Option Queued). cond e (Some x) o) rec)

-- as many tickets as are out, as many requests wait
pub all_taken : (n : ℕ) (ws : List Queued) → ((u : ℕ) → u < n → IsSome (ticket_at ws u)) → n ≤ length ws
all_taken zero ws all = omega arith
all_taken (suc n) ws all =
    let shorter : length (queue_without ws n) < length ws = shorter_without ws n (all n (omega arith)) in
    let rest : n ≤ length (queue_without ws n) =
    all_taken n (queue_without ws n) (λ u h. rw (ticket_without ws n u (omega arith)) (all u (omega arith))) in
    omega arith

-- one request more
pub shows_more : (flags : List Bool) (seen : List Queued) (w : Queued) → w.ticket < 256 → ShowsTickets flags seen →
    ShowsTickets (set flags w.ticket true) (seen ++ w ∷ [])
shows_more flags seen w below shows = record {
  size = length-set flags w.ticket true ∙ shows.size;
  out = λ k h. rw (out_more seen w k) (go k h (w.ticket == k) refl);
}
  where
    go : (k : ℕ) → k < 256 → (b : Bool) → (w.ticket == k) ≡ b → get_or (set flags w.ticket true) k false ≡ cond b true (is_some (ticket_at seen k))
    go k h true e =
        let same : w.ticket ≡ k = grind (arith, nat_tests) in
        rw (← same) (get_or-set_same flags w.ticket true false (omega (arith, shows.size)))
    go k h false e =
        get_or-set_other flags w.ticket k true false (λ f. absurd (grind (arith, nat_tests))) ∙ shows.out k h

-- a place that has nothing
pub none_of : {X : Type 0} (o : Option X) → is_some o ≡ false → o ≡ None
none_of None h = refl
none_of (Some x) h = absurd (cc)

-- the first flag that is down is the lowest free ticket
pub free_is : (flags : List Bool) (ws : List Queued) (i : ℕ) → ShowsTickets flags ws → position not flags ≡ Some i → IsLowestFree ws i
free_is flags ws i shows at =
    let p : (i < length flags) × (not (get_or flags i false) ≡ true) × ((k : ℕ) → k < i → not (get_or flags k false) ≡ false) =
    position-Some not flags i false at in
    record {
      below = omega (arith, shows.size, p.0);
      free = none_of (ticket_at ws i) (sym (shows.out i (omega (arith, shows.size, p.0))) ∙ down _ p.1);
      least = λ u h. sym (shows.out u (omega (arith, shows.size, p.0))) ∙ up _ (p.2 u h);
    }
  where
    down : (b : Bool) → not b ≡ true → b ≡ false
    down true h = absurd (cc)
    down false h = refl

    up : (b : Bool) → not b ≡ false → b ≡ true
    up true h = refl
    up false h = absurd (cc)

-- the first flag that is up is the lowest ticket that is out
pub out_is : (flags : List Bool) (ws : List Queued) (i : ℕ) → ShowsTickets flags ws → position (λ b. b) flags ≡ Some i → IsLowestWaiting ws i
out_is flags ws i shows at =
    let p : (i < length flags) × (get_or flags i false ≡ true) × ((k : ℕ) → k < i → get_or flags k false ≡ false) =
    position-Some (λ b. b) flags i false at in
    record {
      waits = sym (shows.out i (omega (arith, shows.size, p.0))) ∙ p.1;
      least = λ u h. none_of (ticket_at ws u) (sym (shows.out u (omega (arith, shows.size, p.0))) ∙ p.2 u h);
    }

-- no flag passes the test
pub none_passes : (p : Bool → Bool) (flags : List Bool) (k : ℕ) → position p flags ≡ None → k < length flags → p (get_or flags k false) ≡ false
none_passes p flags k none h = go (nat_lt (position_or_len p flags) (length flags)) refl none
  where
    go : (b : Bool) → nat_lt (position_or_len p flags) (length flags) ≡ b → cond b (Some (position_or_len p flags)) None ≡ None →
        p (get_or flags k false) ≡ false
    go true e f = absurd (cc)
    go false e f = fails_before_first p flags k false (grind (arith, nat_tests))

-- with no flag down all tickets are out
pub none_free : (flags : List Bool) (ws : List Queued) → ShowsTickets flags ws → position not flags ≡ None → 256 ≤ length ws
none_free flags ws shows none = all_taken 256 ws (λ u h. sym (shows.out u h) ∙ up _ (none_passes not flags u none (omega (arith, shows.size))))
  where
    up : (b : Bool) → not b ≡ false → b ≡ true
    up true h = refl
    up false h = absurd (cc)

-- with no flag up nobody waits
pub none_out : (flags : List Bool) (ws : List Queued) → All InRange ws → ShowsTickets flags ws → position (λ b. b) flags ≡ None → ws ≡ []
none_out flags [] all shows none = refl
none_out flags (w ∷ ws) all shows none =
    let below : w.ticket < 256 = (all 0 w (omega arith)).ticket in
    let flag : is_some (ticket_at (w ∷ ws) w.ticket) ≡ false =
    sym (shows.out w.ticket below) ∙ none_passes (λ b. b) flags w.ticket none (omega (arith, shows.size)) in
    absurd (go (w.ticket == w.ticket) (grind (arith, nat_tests)) flag)
  where
    go : (b : Bool) → b ≡ true → is_some (cond b (Some w) (ticket_at ws w.ticket)) ≡ false → ⊥
    go true e f = cc
    go false e f = cc
