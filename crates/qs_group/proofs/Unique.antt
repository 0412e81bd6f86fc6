-- In every history an operation has one answer.
use Rattle.std.proofs.Common.{◌≡◌, ℕ, ◌<◌, List, [], ◌∷◌, Option, Some, None, IsSome, refl, sym, ◌∙◌, ap, arith}
use Rattle.qs_part.specs.declared.group.GroupOp.{GroupOp}
use Rattle.qs_part.specs.declared.group.GroupOp.TheVariants.{Queue, Admit, Withdraw, Set as SetTo}
use Rattle.qs_part.specs.declared.group.GroupReply.{GroupReply}
use Rattle.qs_part.specs.declared.group.GroupReply.TheVariants.{Ticket, Full, Strange, Behind, TurnOf, Wait, Go, Withdrawn, Waiting, Bad, Set as IsSet}
use Rattle.qs_group.specs.declared.queue.Queued.{Queued}
use Rattle.qs_group.specs.Queue.{ticket_at, IsLowestFree, IsLowestWaiting}
use Rattle.qs_group.specs.Table.{GroupValue, MayAdmit, May}
use Rattle.qs_group.proofs.Rounds.{IsSound, turn_one}

-- there is one lowest free ticket
pub lowest_free_one : (ws : List Queued) (t u : ℕ) → IsLowestFree ws t → IsLowestFree ws u → t ≡ u
lowest_free_one ws t u a b =
    let no_less : t < u → ⊥ = λ h. none_some (ticket_at ws t) a.free (b.least t h) in
    let no_more : u < t → ⊥ = λ h. none_some (ticket_at ws u) b.free (a.least u h) in
    omega arith
  where
    none_some : (o : Option Queued) → o ≡ None → IsSome o → ⊥
    none_some None e f = cc
    none_some (Some x) e f = cc

-- there is one lowest ticket that is out
pub lowest_waiting_one : (ws : List Queued) (t u : ℕ) → IsLowestWaiting ws t → IsLowestWaiting ws u → t ≡ u
lowest_waiting_one ws t u a b =
    let no_less : t < u → ⊥ = λ h. none_some (ticket_at ws t) (b.least t h) a.waits in
    let no_more : u < t → ⊥ = λ h. none_some (ticket_at ws u) (a.least u h) b.waits in
    omega arith
  where
    none_some : (o : Option Queued) → o ≡ None → IsSome o → ⊥
    none_some None e f = cc
    none_some (Some x) e f = cc

-- nobody waits where no request does
pub none_waiting : (ws : List Queued) (t : ℕ) → ws ≡ [] → IsLowestWaiting ws t → ⊥
none_waiting [] t e low = absurd (off low.waits)
  where
    off : IsSome (ticket_at [] t) → ⊥
    off h = cc
none_waiting (x ∷ ws) t e low = cc

pub admit_one : (v : GroupValue) (now : ℕ) (o : Option Queued) (r q : GroupReply) → IsSound v → MayAdmit v now o r → MayAdmit v now o q → r ≡ q
admit_one v now None Strange Strange sound a b = refl
admit_one v now (Some w) (Behind t) (Behind u) sound a b = ap Behind (a.0 ∙ sym b.0)
admit_one v now (Some w) (Behind t) (TurnOf n) sound a b = absurd (a.1 (a.0 ∙ b.0))
admit_one v now (Some w) (Behind t) (Wait ms) sound a b = absurd (a.1 (a.0 ∙ b.0.earliest_one))
admit_one v now (Some w) (Behind t) Go sound a b = absurd (a.1 (a.0 ∙ b.0.earliest_one))
admit_one v now (Some w) (TurnOf m) (Behind u) sound a b = absurd (b.1 (b.0 ∙ a.0))
admit_one v now (Some w) (TurnOf m) (TurnOf n) sound a b = ap TurnOf (turn_one v w.dir m n sound a.1 b.1)
admit_one v now (Some w) (TurnOf m) (Wait ms) sound a b = absurd (a.2 (turn_one v w.dir m w.member sound a.1 b.0.turn))
admit_one v now (Some w) (TurnOf m) Go sound a b = absurd (a.2 (turn_one v w.dir m w.member sound a.1 b.0.turn))
admit_one v now (Some w) (Wait ns) (Behind u) sound a b = absurd (b.1 (b.0 ∙ a.0.earliest_one))
admit_one v now (Some w) (Wait ns) (TurnOf n) sound a b = absurd (b.2 (turn_one v w.dir n w.member sound b.1 a.0.turn))
admit_one v now (Some w) (Wait ns) (Wait ms) sound a b = ap Wait (a.2 ∙ sym b.2)
admit_one v now (Some w) (Wait ns) Go sound a b = absurd (omega (arith, a.1, a.2, b.1))
admit_one v now (Some w) Go (Behind u) sound a b = absurd (b.1 (b.0 ∙ a.0.earliest_one))
admit_one v now (Some w) Go (TurnOf n) sound a b = absurd (b.2 (turn_one v w.dir n w.member sound b.1 a.0.turn))
admit_one v now (Some w) Go (Wait ms) sound a b = absurd (omega (arith, b.1, b.2, a.1))
admit_one v now (Some w) Go Go sound a b = refl
admit_one v now _ _ _ sound a b = let e : ⊥ = search arith in absurd e

pub answer_one : (v : GroupValue) (op : GroupOp) (r q : GroupReply) → IsSound v → May v op r → May v op q → r ≡ q
answer_one v (Queue m d n) (Ticket t) (Ticket u) sound a b = ap Ticket (lowest_free_one v.waiting t u a.1 b.1)
answer_one v (Queue m d n) (Ticket t) Full sound a b = absurd (omega (arith, a.0, b))
answer_one v (Queue m d n) Full (Ticket u) sound a b = absurd (omega (arith, a, b.0))
answer_one v (Queue m d n) Full Full sound a b = refl
answer_one v (Admit t now) r q sound a b = admit_one v now (ticket_at v.waiting t) r q sound a b
answer_one v (Withdraw t) Withdrawn Withdrawn sound a b = refl
answer_one v (Withdraw t) Withdrawn Strange sound a b = absurd (cc)
answer_one v (Withdraw t) Strange Withdrawn sound a b = absurd (cc)
answer_one v (Withdraw t) Strange Strange sound a b = refl
answer_one v (SetTo l) (Waiting t) (Waiting u) sound a b = ap Waiting (lowest_waiting_one v.waiting t u a b)
answer_one v (SetTo l) (Waiting t) (Bad rule) sound a b = absurd (none_waiting v.waiting t b.0 a)
answer_one v (SetTo l) (Waiting t) IsSet sound a b = absurd (none_waiting v.waiting t b.0 a)
answer_one v (SetTo l) (Bad rule) (Waiting u) sound a b = absurd (none_waiting v.waiting u a.0 b)
answer_one v (SetTo l) (Bad rule) (Bad other) sound a b = cc
answer_one v (SetTo l) (Bad rule) IsSet sound a b = absurd (cc)
answer_one v (SetTo l) IsSet (Waiting u) sound a b = absurd (none_waiting v.waiting u a.0 b)
answer_one v (SetTo l) IsSet (Bad other) sound a b = absurd (cc)
answer_one v (SetTo l) IsSet IsSet sound a b = refl
answer_one v _ _ _ sound a b = let e : ⊥ = search arith in absurd e
