-- The operations of a throttle group: which answer may come, and what it leaves.
use Rattle.std.specs.Prelude.{◌≡◌, ◌≢◌, ℕ, ◌<◌, List, [], ◌∷◌, ◌++◌, length, Option, Some, None, IsSome}
use Rattle.qs_part.specs.declared.group.GroupOp.{GroupOp}
use Rattle.qs_part.specs.declared.group.GroupOp.TheVariants.{Queue, Admit, Withdraw, Set as SetTo}
use Rattle.qs_part.specs.declared.group.GroupReply.{GroupReply}
use Rattle.qs_part.specs.declared.group.GroupReply.TheVariants.{Ticket, Full, Strange, Behind, TurnOf, Wait, Go, Withdrawn, Waiting, Bad, Set as IsSet}
use Rattle.qs_part.specs.declared.limits.Limit.{Limit}
use Rattle.qs_part.specs.declared.limits.Limits.{Limits}
use Rattle.qs_part.specs.Limits.{first_broken}
use Rattle.qs_group.specs.declared.queue.Queued.{Queued}
use Rattle.qs_group.specs.declared.turns.Turns.{Turns}
use Rattle.qs_group.specs.declared.budget.Budget.{Budget}
use Rattle.qs_group.specs.Budget.{budget_for, wait_for, reading_at, charged}
use Rattle.qs_group.specs.Queue.{ticket_at, queue_without, earliest, IsTurn, IsLowestFree, IsLowestWaiting}
use Rattle.qs_group.specs.Turns.{turn_of, passed_on}

-- a group: the requests that wait, in the order in which they came, whose turn it is, and what was admitted
pub record GroupValue : Type 0 where
  pub waiting : List Queued
  pub turns : Turns
  pub budget : Budget

-- the group under these limits, with nobody waiting and nothing admitted
abbrev pub opened_group : Limits → GroupValue
opened_group l = record { waiting = []; turns = record { read = 0; write = 0 }; budget = budget_for l }

abbrev pub no_limit : Limit
no_limit = record { avg = 0; max = 0; burst_length = 1 }

abbrev pub unlimited : Limits
unlimited = record {
  bps_total = no_limit;
  bps_read = no_limit;
  bps_write = no_limit;
  iops_total = no_limit;
  iops_read = no_limit;
  iops_write = no_limit;
  iops_size = 0;
}

-- a new group, which has no limits
abbrev pub fresh : GroupValue
fresh = opened_group unlimited

-- a member's number is below 64
abbrev pub Fits : GroupOp → Type 0
Fits (Queue m d n) = m < 64
Fits _ = Unit {0}

-- a request goes: its ticket is free, the turn is the next member's, and the limits that apply to it count it
abbrev pub ticket_passed : GroupValue → Option Queued → ℕ → GroupValue
ticket_passed v None now = v
ticket_passed v (Some w) now = record {
  waiting = queue_without v.waiting w.ticket;
  turns = passed_on v.turns w.dir w.member;
  budget = charged v.budget w.dir w.bytes (reading_at v.budget now);
}

-- what an answer leaves; answers other than Ticket, Go, Withdrawn and Set change nothing
abbrev pub after : GroupValue → GroupOp → GroupReply → GroupValue
after v (Queue m d n) (Ticket t) =
    record {
      waiting = v.waiting ++ record { ticket = t; member = m; dir = d; bytes = n } ∷ [];
      turns = v.turns;
      budget = v.budget;
    }
after v (Admit t now) Go = ticket_passed v (ticket_at v.waiting t) now
after v (Withdraw t) Withdrawn = record { waiting = queue_without v.waiting t; turns = v.turns; budget = v.budget }
after v (SetTo l) IsSet = opened_group l
after v _ _ = v

-- a request is the earliest of its member and direction, and it is its member's turn
pub record IsNext (v : GroupValue) (w : Queued) : Type 0 where
  pub earliest_one : earliest v.waiting w ≡ w.ticket
  pub turn : IsTurn v.waiting (turn_of v.turns w.dir) w.dir w.member

-- the answers to a request that asks to go: an earlier one of its member stands first, then the turn, then the limits
abbrev pub MayAdmit : GroupValue → ℕ → Option Queued → GroupReply → Type 0
MayAdmit v now None Strange = Unit {0}
MayAdmit v now (Some w) (Behind t) = (t ≡ earliest v.waiting w) × (t ≢ w.ticket)
MayAdmit v now (Some w) (TurnOf m) =
    (earliest v.waiting w ≡ w.ticket) × IsTurn v.waiting (turn_of v.turns w.dir) w.dir m × (m ≢ w.member)
MayAdmit v now (Some w) (Wait ns) = IsNext v w × (0 < ns) × (ns ≡ wait_for v.budget w.dir (reading_at v.budget now))
MayAdmit v now (Some w) Go = IsNext v w × (wait_for v.budget w.dir (reading_at v.budget now) ≡ 0)
MayAdmit v now _ _ = ⊥

-- the answers to an operation
abbrev pub May : GroupValue → GroupOp → GroupReply → Type 0
May v (Queue m d n) (Ticket t) = (length v.waiting < 256) × IsLowestFree v.waiting t
May v (Queue m d n) Full = length v.waiting ≡ 256
May v (Admit t now) reply = MayAdmit v now (ticket_at v.waiting t) reply
May v (Withdraw t) Withdrawn = IsSome (ticket_at v.waiting t)
May v (Withdraw t) Strange = ticket_at v.waiting t ≡ None
May v (SetTo l) (Waiting t) = IsLowestWaiting v.waiting t
May v (SetTo l) (Bad rule) = (v.waiting ≡ []) × (first_broken l ≡ Some rule)
May v (SetTo l) IsSet = (v.waiting ≡ []) × (first_broken l ≡ None)
May v _ _ = ⊥

-- a group answers an operation, and is then what the answer leaves
abbrev pub answers : GroupValue → GroupOp → GroupReply → GroupValue → Type 0
answers old op reply new = May old op reply × (new ≡ after old op reply)
