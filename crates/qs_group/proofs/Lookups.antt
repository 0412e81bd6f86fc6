-- What a look-up among the requests that wait finds.
use Rattle.std.proofs.Common.{◌≡◌, ◌≢◌, ℕ, ◌<◌, List, [], ◌∷◌, ◌++◌, length, get_or, Bool, true, false, cond, Option, Some, None, IsSome, refl, inl, inr, ◌⊎◌, arith, zero, suc}
use Rattle.std.specs.Prelude.{find, All, IfSome, ◌&&◌, ◌==◌, is_some}
use Rattle.std.proofs.lemmas.Bool.Decides.{nat_tests}
use Rattle.qs_part.specs.declared.group.Dir.{Dir}
use Rattle.qs_part.specs.declared.group.Dir.TheVariants.{Read, Write}
use Rattle.qs_part.specs.contracts.group.Dir.{the_type}
use denote.Enum.Bare.{sameb}
use Rattle.qs_group.specs.declared.queue.Queued.{Queued}
use Rattle.qs_group.specs.Queue.{ticket_at, same_dir, is_queued_by, Queues}

-- what is found has what all have
pub find_has : {X : Type 0} (P : X → Type 0) (p : X → Bool) (xs : List X) → All P xs → IfSome (find p xs) P
find_has P p [] all = tt
find_has P p (x ∷ xs) all = go (p x) (find_has P p xs (λ k d h. all (suc k) d (omega arith)))
  where
    go : (b : Bool) → IfSome (find p xs) P → IfSome (cond b (Some x) (find p xs)) P
    go true rest = all 0 x (omega arith)
    go false rest = rest

pub same_dir_self : (d : Dir) → same_dir d d ≡ true
same_dir_self Read = refl
same_dir_self Write = refl

pub same_dir_is : (d e : Dir) → same_dir d e ≡ true → d ≡ e
same_dir_is Read Read h = refl
same_dir_is Write Write h = refl
same_dir_is Read Write h = absurd (cc)
same_dir_is Write Read h = absurd (cc)

-- the derived test of directions
pub sameb_dir : (d e : Dir) → sameb the_type d e ≡ same_dir d e
sameb_dir Read Read = refl
sameb_dir Read Write = refl
sameb_dir Write Read = refl
sameb_dir Write Write = refl

pub same_dir_not : (d e : Dir) → same_dir d e ≡ false → d ≢ e
same_dir_not Read Read h = λ _. absurd (cc)
same_dir_not Write Write h = λ _. absurd (cc)
same_dir_not Read Write h = λ e. cc
same_dir_not Write Read h = λ e. cc

pub is_of_self : (w : Queued) → is_queued_by w.member w.dir w ≡ true
is_of_self w = rw (same_dir_self w.dir) (grind (arith, nat_tests))

-- a request of this member and direction
pub is_of_is : (m : ℕ) (d : Dir) (w : Queued) → is_queued_by m d w ≡ true → (w.member ≡ m) × (w.dir ≡ d)
is_of_is m d w = go (w.member == m) (same_dir w.dir d) refl refl
  where
    go : (a b : Bool) → (w.member == m) ≡ a → same_dir w.dir d ≡ b → (a && b) ≡ true → (w.member ≡ m) × (w.dir ≡ d)
    go true true e f h = (grind (arith, nat_tests), same_dir_is w.dir d f)
    go true false e f h = absurd (cc)
    go false b e f h = absurd (cc)

-- one more at the front or at the end
pub queues_front : (x : Queued) (ws : List Queued) (d : Dir) (m : ℕ) → Queues ws d m → Queues (x ∷ ws) d m
queues_front x ws d m h = go (is_queued_by m d x)
  where
    go : (b : Bool) → IsSome (cond b (Some x) (find (is_queued_by m d) ws))
    go true = refl
    go false = h

pub if_some_more : {X : Type 0} (P Q : X → Type 0) (o : Option X) → ((x : X) → P x → Q x) → IfSome o P → IfSome o Q
if_some_more P Q None f h = tt
if_some_more P Q (Some x) f h = f x h

-- a request that is found has a member that queues
pub found_queues : (p : Queued → Bool) (ws : List Queued) → IfSome (find p ws) (λ w. Queues ws w.dir w.member)
found_queues p [] = tt
found_queues p (x ∷ ws) = go (p x) (if_some_more _ _ (find p ws) (λ w h. queues_front x ws w.dir w.member h) (found_queues p ws))
  where
    go : (b : Bool) → IfSome (find p ws) (λ w. Queues (x ∷ ws) w.dir w.member) → IfSome (cond b (Some x) (find p ws)) (λ w. Queues (x ∷ ws) w.dir w.member)
    go true rest = rw (is_of_self x) refl
    go false rest = rest

-- each request has a member that queues
pub queues_at : (ws : List Queued) (i : ℕ) (o : Queued) → i < length ws → Queues ws (get_or ws i o).dir (get_or ws i o).member
queues_at [] i o h = absurd (omega arith)
queues_at (x ∷ ws) zero o h = rw (is_of_self x) refl
queues_at (x ∷ ws) (suc i) o h = queues_front x ws _ _ (queues_at ws i o (omega arith))

pub queues_more : (ws : List Queued) (w : Queued) (d : Dir) (k : ℕ) → Queues (ws ++ w ∷ []) d k → Queues ws d k ⊎ ((w.member ≡ k) × (w.dir ≡ d))
queues_more [] w d k = go (is_queued_by k d w) refl
  where
    go : (b : Bool) → is_queued_by k d w ≡ b → IsSome (cond b (Some w) None) → Queues [] d k ⊎ ((w.member ≡ k) × (w.dir ≡ d))
    go true e h = inr (is_of_is k d w e)
    go false e h = absurd (cc)
queues_more (x ∷ ws) w d k = go (is_queued_by k d x) (queues_more ws w d k)
  where
    go : (b : Bool) → (Queues (ws ++ w ∷ []) d k → Queues ws d k ⊎ ((w.member ≡ k) × (w.dir ≡ d))) →
        IsSome (cond b (Some x) (find (is_queued_by k d) (ws ++ w ∷ []))) → IsSome (cond b (Some x) (find (is_queued_by k d) ws)) ⊎ ((w.member ≡ k) × (w.dir ≡ d))
    go true rec h = inl refl
    go false rec h = rec h

-- whether a ticket is out, with one request more
pub out_more : (ws : List Queued) (w : Queued) (t : ℕ) → is_some (ticket_at (ws ++ w ∷ []) t) ≡ cond (w.ticket == t) true (is_some (ticket_at ws t))
out_more [] w t = go (w.ticket == t)
  where
    go : (b : Bool) → is_some (cond b (Some w) None) ≡ cond b true false
    go true = refl
    go false = refl
out_more (x ∷ ws) w t = go (x.ticket == t) (out_more ws w t)
  where
    go : (b : Bool) → is_some (ticket_at (ws ++ w ∷ []) t) ≡ cond (w.ticket == t) true (is_some (ticket_at ws t)) →
        is_some (cond b (Some x) (ticket_at (ws ++ w ∷ []) t)) ≡ cond (w.ticket == t) true (is_some (cond b (Some x) (ticket_at ws t)))
    go true rec = both (w.ticket == t)
      where
        both : (c : Bool) → true ≡ cond c true true
        both true = refl
        both false = refl
    go false rec = rec
