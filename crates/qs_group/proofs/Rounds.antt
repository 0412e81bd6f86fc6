-- In every history just one ticket of a direction is served.
use Rattle.std.proofs.Common.{◌≡◌, ◌≢◌, ℕ, ◌<◌, ◌≤◌, List, [], ◌∷◌, ◌++◌, length, Bool, true, false, cond, not, Option, Some, None, IsSome, refl, sym, ◌∙◌, ap, subst, inl, inr, ◌⊎◌, arith, lit<, zero, suc, length-append}
use Rattle.std.specs.Prelude.{find, ◌==◌}
use Rattle.std.proofs.lemmas.Bool.Decides.{nat_tests}
use Rattle.qs_part.specs.declared.group.Dir.{Dir}
use Rattle.qs_part.specs.declared.group.Dir.TheVariants.{Read, Write}
use Rattle.qs_part.specs.declared.group.GroupOp.{GroupOp}
use Rattle.qs_part.specs.declared.group.GroupOp.TheVariants.{Queue, Admit, Withdraw, Set as SetTo}
use Rattle.qs_part.specs.declared.group.GroupReply.{GroupReply}
use Rattle.qs_part.specs.declared.group.GroupReply.TheVariants.{Ticket, Wait, Go, Withdrawn, Set as IsSet}
use Rattle.qs_part.specs.Histories.{Call}
use Rattle.qs_part.proofs.Histories.{stands_keeps}
use Rattle.qs_group.specs.declared.queue.Queued.{Queued}
use Rattle.qs_group.specs.Budget.{wait_for, reading_at}
use Rattle.qs_group.specs.Queue.{has_ticket, ticket_at, queue_without, same_dir, is_queued_by, Queues, ticket_or, round, IsTurn}
use Rattle.qs_group.specs.Turns.{turn_of, passed_on}
use Rattle.qs_group.specs.Table.{GroupValue, fresh, Fits, ticket_passed, after, IsNext, MayAdmit, May}
use Rattle.qs_group.specs.History.{lawful_call, StandsForFresh}
use Rattle.qs_group.specs.Served.{ServesTicket, WaitsIn, OneServed}
use Rattle.qs_group.proofs.Tickets.{length_without}
use Rattle.qs_group.proofs.Lookups.{is_of_is, is_of_self, same_dir_is, same_dir_not, queues_front, found_queues}

-- members are in range, and no two requests have one ticket
abbrev pub AreTickets : List Queued → Type 0
AreTickets [] = Unit {0}
AreTickets (w ∷ ws) = (w.member < 64) × (ticket_at ws w.ticket ≡ None) × AreTickets ws

pub record IsSound (v : GroupValue) : Type 0 where
  pub tickets : AreTickets v.waiting
  pub room : length v.waiting ≤ 256
  pub read_turn : v.turns.read < 64
  pub write_turn : v.turns.write < 64

-- a ticket that is found has its number
pub found_ticket : (ws : List Queued) (t : ℕ) (w : Queued) → ticket_at ws t ≡ Some w → w.ticket ≡ t
found_ticket [] t w h = absurd (cc)
found_ticket (x ∷ ws) t w h = go (x.ticket == t) refl h (found_ticket ws t w)
  where
    go : (b : Bool) → (x.ticket == t) ≡ b → cond b (Some x) (ticket_at ws t) ≡ Some w → (ticket_at ws t ≡ Some w → w.ticket ≡ t) → w.ticket ≡ t
    go true e f rec =
        let number : x.ticket ≡ t = grind (arith, nat_tests) in
        let same : x ≡ w = cc in
        ap (λ (q : Queued). q.ticket) (sym same) ∙ number
    go false e f rec = rec f

-- a ticket that isn't out, in a longer list
pub none_more : (ws : List Queued) (w : Queued) (t : ℕ) → ticket_at ws t ≡ None → w.ticket ≢ t → ticket_at (ws ++ w ∷ []) t ≡ None
none_more [] w t none other = go (w.ticket == t) refl
  where
    go : (b : Bool) → (w.ticket == t) ≡ b → cond b (Some w) None ≡ None
    go true e = absurd (other (grind (arith, nat_tests)))
    go false e = refl
none_more (x ∷ ws) w t none other = go (x.ticket == t) none (none_more ws w t)
  where
    go : (b : Bool) → cond b (Some x) (ticket_at ws t) ≡ None → (ticket_at ws t ≡ None → w.ticket ≢ t → ticket_at (ws ++ w ∷ []) t ≡ None) →
        cond b (Some x) (ticket_at (ws ++ w ∷ []) t) ≡ None
    go true f rec = absurd (cc)
    go false f rec = rec f other

pub tickets_push : (ws : List Queued) (w : Queued) → AreTickets ws → w.member < 64 → ticket_at ws w.ticket ≡ None → AreTickets (ws ++ w ∷ [])
tickets_push [] w all below free = (below, refl, tt)
tickets_push (x ∷ ws) w all below free = go (x.ticket == w.ticket) refl free (tickets_push ws w all.2 below)
  where
    go : (b : Bool) → (x.ticket == w.ticket) ≡ b → cond b (Some x) (ticket_at ws w.ticket) ≡ None → (ticket_at ws w.ticket ≡ None → AreTickets (ws ++ w ∷ [])) →
        (x.member < 64) × (ticket_at (ws ++ w ∷ []) x.ticket ≡ None) × AreTickets (ws ++ w ∷ [])
    go true e f rec = absurd (cc)
    go false e f rec = (all.0, none_more ws w x.ticket all.1 (λ g. absurd (grind (arith, nat_tests))), rec f)

pub none_without : (ws : List Queued) (t u : ℕ) → ticket_at ws u ≡ None → ticket_at (queue_without ws t) u ≡ None
none_without [] t u none = refl
none_without (x ∷ ws) t u none = go (x.ticket == t) (x.ticket == u) refl none (none_without ws t u)
  where
    go : (b e : Bool) → (x.ticket == u) ≡ e → cond e (Some x) (ticket_at ws u) ≡ None → (ticket_at ws u ≡ None → ticket_at (queue_without ws t) u ≡ None) →
        ticket_at (cond (not b) (x ∷ queue_without ws t) (queue_without ws t)) u ≡ None
    go b true g f rec = absurd (cc)
    go true false g f rec = rec f
    go false false g f rec = rw g (rec f)

pub tickets_without : (ws : List Queued) (t : ℕ) → AreTickets ws → AreTickets (queue_without ws t)
tickets_without [] t all = tt
tickets_without (x ∷ ws) t all = go (x.ticket == t) (tickets_without ws t all.2)
  where
    go : (b : Bool) → AreTickets (queue_without ws t) → AreTickets (cond (not b) (x ∷ queue_without ws t) (queue_without ws t))
    go true rec = rec
    go false rec = (all.0, none_without ws t x.ticket all.1, rec)

-- each answer keeps a group sound
pub answer_sound : (v : GroupValue) (op : GroupOp) (reply : GroupReply) → Fits op → May v op reply → IsSound v → IsSound (after v op reply)
answer_sound v (Queue m d n) (Ticket t) fits may sound = record {
  tickets = tickets_push v.waiting _ sound.tickets fits may.1.free;
  room = omega (arith, may.0, length-append v.waiting (record { ticket = t; member = m; dir = d; bytes = n } ∷ []));
  read_turn = sound.read_turn;
  write_turn = sound.write_turn;
}
answer_sound v (Admit t now) Go fits may sound = go (ticket_at v.waiting t)
  where
    turned : (w : Queued) (d : Dir) → ((passed_on v.turns d w.member).read < 64) × ((passed_on v.turns d w.member).write < 64)
    turned w Read = (omega arith, sound.write_turn)
    turned w Write = (sound.read_turn, omega arith)

    go : (o : Option Queued) → IsSound (ticket_passed v o now)
    go None = sound
    go (Some w) = record {
      tickets = tickets_without v.waiting w.ticket sound.tickets;
      room = omega (arith, length_without v.waiting w.ticket, sound.room);
      read_turn = (turned w w.dir).0;
      write_turn = (turned w w.dir).1;
    }
answer_sound v (Withdraw t) Withdrawn fits may sound = record {
  tickets = tickets_without v.waiting t sound.tickets;
  room = omega (arith, length_without v.waiting t, sound.room);
  read_turn = sound.read_turn;
  write_turn = sound.write_turn;
}
answer_sound v (SetTo l) IsSet fits may sound = record { tickets = tt; room = omega arith; read_turn = lit< tt; write_turn = lit< tt }
answer_sound v _ _ fits may sound = sound

pub fresh_sound : (cs : List (Call GroupOp GroupReply)) (v : GroupValue) → StandsForFresh cs v → IsSound v
fresh_sound cs v stands =
    stands_keeps lawful_call IsSound
    (λ old op reply new call sound. subst IsSound (sym call.1.1) (answer_sound old op reply call.0 call.1.0 sound))
    fresh cs v stands (record { tickets = tt; room = omega arith; read_turn = lit< tt; write_turn = lit< tt })

pub turn_below : (v : GroupValue) (d : Dir) → IsSound v → turn_of v.turns d < 64
turn_below v Read sound = sound.read_turn
turn_below v Write sound = sound.write_turn

-- a member that queues has the first request, or one further on
pub queues_split : (x : Queued) (ws : List Queued) (d : Dir) (k : ℕ) → Queues (x ∷ ws) d k → ((x.member ≡ k) × (x.dir ≡ d)) ⊎ Queues ws d k
queues_split x ws d k h = go (is_queued_by k d x) refl h
  where
    go : (b : Bool) → is_queued_by k d x ≡ b → IsSome (cond b (Some x) (find (is_queued_by k d) ws)) → ((x.member ≡ k) × (x.dir ≡ d)) ⊎ Queues ws d k
    go true e f = inl (is_of_is k d x e)
    go false e f = inr f

pub member_below : (ws : List Queued) (d : Dir) (m : ℕ) → AreTickets ws → Queues ws d m → m < 64
member_below [] d m all h = absurd (cc)
member_below (x ∷ ws) d m all h = go (queues_split x ws d m h) (member_below ws d m all.2)
  where
    go : ((x.member ≡ m) × (x.dir ≡ d)) ⊎ Queues ws d m → (Queues ws d m → m < 64) → m < 64
    go (inl e) rec = omega (arith, all.0, e.0)
    go (inr f) rec = rec f

pub nearer_of : (m n : ℕ) → (m ≤ n) ⊎ (n ≤ m)
nearer_of m n = grind arith

pub front_queues : (x : Queued) (ws : List Queued) (d : Dir) → x.dir ≡ d → Queues (x ∷ ws) d x.member
front_queues x ws d same = rw (← same, is_of_self x) refl

-- the first member from the turn on, with one request more in front
pub turn_other : (x : Queued) (ws : List Queued) (turn : ℕ) (d : Dir) (m : ℕ) → x.dir ≢ d → IsTurn ws turn d m → IsTurn (x ∷ ws) turn d m
turn_other x ws turn d m other it = record { queues = queues_front x ws d m it.queues; first = λ k h. go k (queues_split x ws d k h) }
  where
    go : (k : ℕ) → ((x.member ≡ k) × (x.dir ≡ d)) ⊎ Queues ws d k → round turn m ≤ round turn k
    go k (inl e) = absurd (other e.1)
    go k (inr f) = it.first k f

pub turn_far : (x : Queued) (ws : List Queued) (turn : ℕ) (d : Dir) (m : ℕ) → round turn m ≤ round turn x.member → IsTurn ws turn d m → IsTurn (x ∷ ws) turn d m
turn_far x ws turn d m far it = record { queues = queues_front x ws d m it.queues; first = λ k h. go k (queues_split x ws d k h) }
  where
    go : (k : ℕ) → ((x.member ≡ k) × (x.dir ≡ d)) ⊎ Queues ws d k → round turn m ≤ round turn k
    go k (inl e) = rw (← e.0) far
    go k (inr f) = it.first k f

pub turn_near : (x : Queued) (ws : List Queued) (turn : ℕ) (d : Dir) → x.dir ≡ d → ((k : ℕ) → Queues ws d k → round turn x.member ≤ round turn k) →
    IsTurn (x ∷ ws) turn d x.member
turn_near x ws turn d same near = record { queues = front_queues x ws d same; first = λ k h. go k (queues_split x ws d k h) }
  where
    go : (k : ℕ) → ((x.member ≡ k) × (x.dir ≡ d)) ⊎ Queues ws d k → round turn x.member ≤ round turn k
    go k (inl e) = rw e.0 (omega arith)
    go k (inr f) = near k f

-- the first member from the turn on, if any has a request
pub first_member : (ws : List Queued) (turn : ℕ) (d : Dir) → ((m : ℕ) × IsTurn ws turn d m) ⊎ ((k : ℕ) → Queues ws d k → ⊥)
first_member [] turn d = inr (λ k h. cc)
first_member (x ∷ ws) turn d = go (same_dir x.dir d) refl (first_member ws turn d)
  where
    go : (b : Bool) → same_dir x.dir d ≡ b → ((m : ℕ) × IsTurn ws turn d m) ⊎ ((k : ℕ) → Queues ws d k → ⊥) →
        ((m : ℕ) × IsTurn (x ∷ ws) turn d m) ⊎ ((k : ℕ) → Queues (x ∷ ws) d k → ⊥)
    go false e (inl (m, it)) = inl (m, turn_other x ws turn d m (same_dir_not x.dir d e) it)
    go false e (inr none) = inr (λ k h. pick k (queues_split x ws d k h))
      where
        pick : (k : ℕ) → ((x.member ≡ k) × (x.dir ≡ d)) ⊎ Queues ws d k → ⊥
        pick k (inl f) = same_dir_not x.dir d e f.1
        pick k (inr f) = none k f
    go true e (inr none) = inl (x.member, turn_near x ws turn d (same_dir_is x.dir d e) (λ k h. absurd (none k h)))
    go true e (inl (m, it)) = pick (nearer_of (round turn x.member) (round turn m))
      where
        pick : (round turn x.member ≤ round turn m) ⊎ (round turn m ≤ round turn x.member) →
            ((n : ℕ) × IsTurn (x ∷ ws) turn d n) ⊎ ((k : ℕ) → Queues (x ∷ ws) d k → ⊥)
        pick (inl near) = inl (x.member, turn_near x ws turn d (same_dir_is x.dir d e) (λ k h. omega (arith, it.first k h)))
        pick (inr far) = inl (m, turn_far x ws turn d m far it)

pub round_one : (turn m n : ℕ) → turn < 64 → m < 64 → n < 64 → round turn m ≡ round turn n → m ≡ n
round_one turn m n a b c h = grind (arith, nat_tests)

-- it is the turn of one member alone
pub turn_one : (v : GroupValue) (d : Dir) (m n : ℕ) → IsSound v → IsTurn v.waiting (turn_of v.turns d) d m → IsTurn v.waiting (turn_of v.turns d) d n → m ≡ n
turn_one v d m n sound it also =
    round_one (turn_of v.turns d) m n (turn_below v d sound) (member_below v.waiting d m sound.tickets it.queues)
    (member_below v.waiting d n sound.tickets also.queues) (omega (arith, it.first n also.queues, also.first m it.queues))

-- what is found passes the test
pub find_passes : {X : Type 0} (p : X → Bool) (xs : List X) (x : X) → find p xs ≡ Some x → p x ≡ true
find_passes p [] x h = absurd (cc)
find_passes p (y ∷ xs) x h = go (p y) refl h (find_passes p xs x)
  where
    go : (b : Bool) → p y ≡ b → cond b (Some y) (find p xs) ≡ Some x → (find p xs ≡ Some x → p x ≡ true) → p x ≡ true
    go true e f rec = let same : y ≡ x = cc in rw (← same) e
    go false e f rec = rec f

pub some_of : {X : Type 0} (o : Option X) → IsSome o → (x : X) × (o ≡ Some x)
some_of None h = absurd (cc)
some_of (Some x) h = (x, refl)

-- a request that is found is the one with its ticket
pub own_number : (p : Queued → Bool) (ws : List Queued) (w : Queued) → AreTickets ws → find p ws ≡ Some w → ticket_at ws w.ticket ≡ Some w
own_number p [] w all h = absurd (cc)
own_number p (x ∷ ws) w all h = go (p x) h (own_number p ws w all.2)
  where
    here : (b : Bool) → b ≡ true → cond b (Some x) (ticket_at ws x.ticket) ≡ Some x
    here true e = refl
    here false e = absurd (cc)

    there : (b : Bool) → (x.ticket == w.ticket) ≡ b → ticket_at ws w.ticket ≡ Some w → cond b (Some x) (ticket_at ws w.ticket) ≡ Some w
    there true e f =
        let same : x.ticket ≡ w.ticket = grind (arith, nat_tests) in
        let none : ticket_at ws w.ticket ≡ None = rw same at all.1 in
        absurd (cc)
    there false e f = f

    go : (b : Bool) → cond b (Some x) (find p ws) ≡ Some w → (find p ws ≡ Some w → ticket_at ws w.ticket ≡ Some w) →
        cond (x.ticket == w.ticket) (Some x) (ticket_at ws w.ticket) ≡ Some w
    go true f rec =
        let same : x ≡ w = cc in
        subst (λ (q : Queued). cond (x.ticket == q.ticket) (Some x) (ticket_at ws q.ticket) ≡ Some q) same (here (x.ticket == x.ticket) (grind (arith, nat_tests)))
    go false f rec = there (x.ticket == w.ticket) refl (rec f)

-- who is served is next
pub serves_next : (v : GroupValue) (now : ℕ) (w : Queued) (reply : GroupReply) → MayAdmit v now (Some w) reply → ServesTicket reply → IsNext v w
serves_next v now w Go may serves = may.0
serves_next v now w (Wait ns) may serves = may.0
serves_next v now w _ may serves = absurd serves

-- who is next is served
pub next_serves : (v : GroupValue) (now : ℕ) (w : Queued) → IsNext v w → (reply : GroupReply) × ServesTicket reply × MayAdmit v now (Some w) reply
next_serves v now w next = go (wait_for v.budget w.dir (reading_at v.budget now)) refl
  where
    go : (n : ℕ) → wait_for v.budget w.dir (reading_at v.budget now) ≡ n → (reply : GroupReply) × ServesTicket reply × MayAdmit v now (Some w) reply
    go zero e = (Go, tt, (next, e))
    go (suc n) e = (Wait (suc n), tt, (next, omega arith, sym e))

-- one ticket of a direction is next
pub next_one : (v : GroupValue) (d : Dir) (w u : Queued) → IsSound v → w.dir ≡ d → u.dir ≡ d → IsNext v w → IsNext v u → w.ticket ≡ u.ticket
next_one v d w u sound here there next also = go (some_of (find (is_queued_by w.member d) v.waiting) turn.queues)
  where
    turn : IsTurn v.waiting (turn_of v.turns d) d w.member
    turn = subst (λ (e : Dir). IsTurn v.waiting (turn_of v.turns e) e w.member) here next.turn

    same : w.member ≡ u.member
    same = turn_one v d w.member u.member sound turn (subst (λ (e : Dir). IsTurn v.waiting (turn_of v.turns e) e u.member) there also.turn)

    first : ticket_or w.ticket (find (is_queued_by w.member d) v.waiting) ≡ w.ticket
    first = subst (λ (e : Dir). ticket_or w.ticket (find (is_queued_by w.member e) v.waiting) ≡ w.ticket) here next.earliest_one

    second : ticket_or u.ticket (find (is_queued_by w.member d) v.waiting) ≡ u.ticket
    second = subst (λ (m : ℕ). ticket_or u.ticket (find (is_queued_by m d) v.waiting) ≡ u.ticket) (sym same)
        (subst (λ (e : Dir). ticket_or u.ticket (find (is_queued_by u.member e) v.waiting) ≡ u.ticket) there also.earliest_one)

    go : (x : Queued) × (find (is_queued_by w.member d) v.waiting ≡ Some x) → w.ticket ≡ u.ticket
    go (x, f) = sym (rw f at first) ∙ (rw f at second)

-- just one ticket of a direction is served, if one waits
pub one_served : (v : GroupValue) (d : Dir) (t : ℕ) → IsSound v → WaitsIn v d t → OneServed v d
one_served v d t sound waits = go (first_member v.waiting (turn_of v.turns d) d)
  where
    queues : Queues v.waiting d waits.w.member
    queues = subst (λ (e : Dir). Queues v.waiting e waits.w.member) waits.dir (rw waits.found at (found_queues (has_ticket t) v.waiting))

    serve : (m : ℕ) → IsTurn v.waiting (turn_of v.turns d) d m → (x : Queued) → find (is_queued_by m d) v.waiting ≡ Some x → (x.member ≡ m) × (x.dir ≡ d) → OneServed v d
    serve m it x f is =
        let own : ticket_at v.waiting x.ticket ≡ Some x = own_number (is_queued_by m d) v.waiting x sound.tickets f in
        let next : IsNext v x = record { earliest_one = rw (is.0, is.1, f) refl; turn = rw (is.0, is.1) it } in
        record {
          ticket = x.ticket;
          waits = record { w = x; found = own; dir = is.1 };
          served = λ now. rw own (next_serves v now x next);
          only = λ u now reply also may serves.
              sym (found_ticket v.waiting u also.w also.found)
              ∙ next_one v d also.w x sound also.dir is.1 (serves_next v now also.w reply (rw also.found at may) serves) next;
        }

    pick : (m : ℕ) → IsTurn v.waiting (turn_of v.turns d) d m → (x : Queued) × (find (is_queued_by m d) v.waiting ≡ Some x) → OneServed v d
    pick m it (x, f) = serve m it x f (is_of_is m d x (find_passes (is_queued_by m d) v.waiting x f))

    go : ((m : ℕ) × IsTurn v.waiting (turn_of v.turns d) d m) ⊎ ((k : ℕ) → Queues v.waiting d k → ⊥) → OneServed v d
    go (inl (m, it)) = pick m it (some_of (find (is_queued_by m d) v.waiting) it.queues)
    go (inr none) = absurd (none waits.w.member queues)
