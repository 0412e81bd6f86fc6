-- In every history an operation has an answer.
use Rattle.std.proofs.Common.{◌≡◌, ℕ, ◌<◌, ◌≤◌, List, [], ◌∷◌, length, Bool, true, false, cond, not, Option, Some, None, refl, inl, inr, ◌⊎◌, arith, zero, suc}
use Rattle.std.specs.Prelude.{◌==◌, is_some}
use Rattle.std.proofs.lemmas.Bool.Decides.{nat_tests}
use Rattle.qs_part.specs.declared.group.Dir.{Dir}
use Rattle.qs_part.specs.declared.group.GroupOp.{GroupOp}
use Rattle.qs_part.specs.declared.group.GroupOp.TheVariants.{Queue, Admit, Withdraw, Set as SetTo}
use Rattle.qs_part.specs.declared.group.GroupReply.{GroupReply}
use Rattle.qs_part.specs.declared.group.GroupReply.TheVariants.{Ticket, Full, Strange, Behind, TurnOf, Withdrawn, Waiting, Bad, Set as IsSet}
use Rattle.qs_part.specs.declared.limits.Limits.{Limits}
use Rattle.qs_part.specs.declared.limits.Rule.{Rule}
use Rattle.qs_part.specs.Limits.{first_broken}
use Rattle.qs_group.specs.declared.queue.Queued.{Queued}
use Rattle.qs_group.specs.Queue.{has_ticket, ticket_at, Queues, earliest, IsTurn}
use Rattle.qs_group.specs.Turns.{turn_of}
use Rattle.qs_group.specs.Served.{ServesTicket}
use Rattle.qs_group.specs.Table.{GroupValue, IsNext, MayAdmit, May}
use Rattle.qs_group.proofs.Lookups.{found_queues}
use Rattle.qs_group.proofs.Tickets.{all_taken, none_of}
use Rattle.qs_group.proofs.Rounds.{IsSound, first_member, next_serves}

-- the least number that passes a test
pub record Least (p : ℕ → Bool) (n : ℕ) : Type 0 where
  pub at : ℕ
  pub below : at < n
  pub passes : p at ≡ true
  pub least : (u : ℕ) → u < at → p u ≡ false

pub least_of : (p : ℕ → Bool) (n : ℕ) → ((u : ℕ) → u < n → p u ≡ false) ⊎ Least p n
least_of p zero = inl (λ u h. absurd (omega arith))
least_of p (suc n) = go (least_of p n) (p n) refl
  where
    go : ((u : ℕ) → u < n → p u ≡ false) ⊎ Least p n → (b : Bool) → p n ≡ b → ((u : ℕ) → u < suc n → p u ≡ false) ⊎ Least p (suc n)
    go (inr l) b e = inr (record { at = l.at; below = omega (arith, l.below); passes = l.passes; least = l.least })
    go (inl none) true e = inr (record { at = n; below = omega arith; passes = e; least = none })
    go (inl none) false e = inl (λ u h. pick u h (u == n) refl)
      where
        pick : (u : ℕ) → u < suc n → (b : Bool) → (u == n) ≡ b → p u ≡ false
        pick u h true f = let same : u ≡ n = grind (arith, nat_tests) in rw same e
        pick u h false f = none u (grind (arith, nat_tests))

pub flipped : (b c : Bool) → not b ≡ c → b ≡ not c
flipped true c h = rw (← h) refl
flipped false c h = rw (← h) refl

pub queue_answered : (v : GroupValue) (m n : ℕ) (d : Dir) → IsSound v → (reply : GroupReply) × May v (Queue m d n) reply
queue_answered v m n d sound = go (length v.waiting == 256) refl (least_of (λ t. not (is_some (ticket_at v.waiting t))) 256)
  where
    go : (b : Bool) → (length v.waiting == 256) ≡ b →
        ((u : ℕ) → u < 256 → not (is_some (ticket_at v.waiting u)) ≡ false) ⊎ Least (λ t. not (is_some (ticket_at v.waiting t))) 256 →
        (reply : GroupReply) × May v (Queue m d n) reply
    go true e _ = (Full, grind (arith, nat_tests))
    go false e (inl all) =
        let full : 256 ≤ length v.waiting = all_taken 256 v.waiting (λ u h. flipped _ false (all u h)) in
        (Full, omega (arith, sound.room))
    go false e (inr l) = (
      Ticket l.at,
      (
        grind (arith, nat_tests, sound.room),
        record { below = l.below; free = none_of _ (flipped _ true l.passes); least = λ u h. flipped _ false (l.least u h) },
      ),
    )

pub admit_answered : (v : GroupValue) (now t : ℕ) → (o : Option Queued) → ticket_at v.waiting t ≡ o → (reply : GroupReply) × MayAdmit v now o reply
admit_answered v now t None found = (Strange, tt)
admit_answered v now t (Some w) found = first (earliest v.waiting w == w.ticket) refl
  where
    queues : Queues v.waiting w.dir w.member
    queues = rw found at (found_queues (has_ticket t) v.waiting)

    turn : earliest v.waiting w ≡ w.ticket → (m : ℕ) → IsTurn v.waiting (turn_of v.turns w.dir) w.dir m → (b : Bool) → (m == w.member) ≡ b →
        (reply : GroupReply) × MayAdmit v now (Some w) reply
    turn is m it false e = (TurnOf m, (is, it, λ h. absurd (grind (arith, nat_tests))))
    turn is m it true e =
        let same : m ≡ w.member = grind (arith, nat_tests) in
        let next : IsNext v w = record { earliest_one = is; turn = rw same at it } in
        let served : (reply : GroupReply) × ServesTicket reply × MayAdmit v now (Some w) reply = next_serves v now w next in
        (served.0, served.2)

    round : earliest v.waiting w ≡ w.ticket → ((m : ℕ) × IsTurn v.waiting (turn_of v.turns w.dir) w.dir m) ⊎ ((k : ℕ) → Queues v.waiting w.dir k → ⊥) →
        (reply : GroupReply) × MayAdmit v now (Some w) reply
    round is (inl (m, it)) = turn is m it (m == w.member) refl
    round is (inr none) = absurd (none w.member queues)

    first : (b : Bool) → (earliest v.waiting w == w.ticket) ≡ b → (reply : GroupReply) × MayAdmit v now (Some w) reply
    first false e = (Behind (earliest v.waiting w), (refl, λ h. absurd (grind (arith, nat_tests))))
    first true e = round (grind (arith, nat_tests)) (first_member v.waiting (turn_of v.turns w.dir) w.dir)

pub set_answered : (v : GroupValue) (l : Limits) (ws : List Queued) → v.waiting ≡ ws → (reply : GroupReply) × May v (SetTo l) reply
set_answered v l [] empty = go (first_broken l) refl
  where
    go : (o : Option Rule) → first_broken l ≡ o → (reply : GroupReply) × May v (SetTo l) reply
    go None e = (IsSet, (empty, e))
    go (Some rule) e = (Bad rule, (empty, e))
set_answered v l (x ∷ ws) some = go (least_of (λ t. is_some (ticket_at v.waiting t)) (suc x.ticket))
  where
    here : (b : Bool) → b ≡ true → is_some (cond b (Some x) (ticket_at ws x.ticket)) ≡ false → ⊥
    here true e f = cc
    here false e f = cc

    go : ((u : ℕ) → u < suc x.ticket → is_some (ticket_at v.waiting u) ≡ false) ⊎ Least (λ t. is_some (ticket_at v.waiting t)) (suc x.ticket) →
        (reply : GroupReply) × May v (SetTo l) reply
    go (inl none) = absurd (here (x.ticket == x.ticket) (grind (arith, nat_tests)) (rw some at (none x.ticket (omega arith))))
    go (inr low) = (Waiting low.at, record { waits = low.passes; least = λ u h. none_of _ (low.least u h) })

-- each operation has an answer
pub answered : (v : GroupValue) (op : GroupOp) → IsSound v → (reply : GroupReply) × May v op reply
answered v (Queue m d n) sound = queue_answered v m n d sound
answered v (Admit t now) sound = admit_answered v now t (ticket_at v.waiting t) refl
answered v (Withdraw t) sound = go (ticket_at v.waiting t) refl
  where
    go : (o : Option Queued) → ticket_at v.waiting t ≡ o → (reply : GroupReply) × May v (Withdraw t) reply
    go None e = (Strange, e)
    go (Some w) e = (Withdrawn, rw e refl)
answered v (SetTo l) sound = set_answered v l v.waiting refl
