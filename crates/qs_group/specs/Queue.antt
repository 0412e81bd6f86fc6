-- The requests that wait in a group, in the order in which they came, each with its ticket.
use Rattle.std.specs.Prelude.{◌≡◌, ℕ, ◌+◌, ◌-◌, ◌<◌, ◌≤◌, ◌==◌, nat_le, Bool, true, false, not, ◌&&◌, if◌then◌else◌, List, filter, find, length, Option, Some, None, IsSome, is_some}
use Rattle.std.specs.List.{slice_index_or}
use Rattle.qs_part.specs.declared.group.Dir.{Dir}
use Rattle.qs_part.specs.declared.group.Dir.TheVariants.{Read, Write}
use Rattle.qs_group.specs.declared.queue.Queued.{Queued}

-- tickets are below 256 and members below 64
pub record InRange (w : Queued) : Type 0 where
  pub ticket : w.ticket < 256
  pub member : w.member < 64

-- whether a request has this ticket
abbrev pub has_ticket : ℕ → Queued → Bool
has_ticket t w = w.ticket == t

-- the request with this ticket
abbrev pub ticket_at : List Queued → ℕ → Option Queued
ticket_at ws t = find (has_ticket t) ws

-- the others
abbrev pub queue_without : List Queued → ℕ → List Queued
queue_without ws t = filter (λ w. not (has_ticket t w)) ws

abbrev pub same_dir : Dir → Dir → Bool
same_dir Read Read = true
same_dir Write Write = true
same_dir _ _ = false

-- whether a request is of this member and direction
abbrev pub is_queued_by : ℕ → Dir → Queued → Bool
is_queued_by m d w = w.member == m && same_dir w.dir d

-- a member has a request of this direction
abbrev pub Queues : List Queued → Dir → ℕ → Type 0
Queues ws d m = IsSome (find (is_queued_by m d) ws)

abbrev pub ticket_or : ℕ → Option Queued → ℕ
ticket_or t None = t
ticket_or t (Some w) = w.ticket

-- the ticket of the earliest request of this one's member and direction
abbrev pub earliest : List Queued → Queued → ℕ
earliest ws w = ticket_or w.ticket (find (is_queued_by w.member w.dir) ws)

-- how far a member is from the turn, going round the 64 members
abbrev pub round : ℕ → ℕ → ℕ
round turn m = if nat_le turn m then m - turn else m + 64 - turn

-- the first member, from the turn on and going round, that has a request of this direction
pub record IsTurn (ws : List Queued) (turn : ℕ) (d : Dir) (m : ℕ) : Type 0 where
  pub queues : Queues ws d m
  pub first : (k : ℕ) → Queues ws d k → round turn m ≤ round turn k

-- the lowest ticket that no request has
pub record IsLowestFree (ws : List Queued) (t : ℕ) : Type 0 where
  pub below : t < 256
  pub free : ticket_at ws t ≡ None
  pub least : (u : ℕ) → u < t → IsSome (ticket_at ws u)

-- the lowest ticket that a request has
pub record IsLowestWaiting (ws : List Queued) (t : ℕ) : Type 0 where
  pub waits : IsSome (ticket_at ws t)
  pub least : (u : ℕ) → u < t → ticket_at ws u ≡ None

-- the flag at each place says whether that ticket is out
pub record ShowsTickets (flags : List Bool) (ws : List Queued) : Type 0 where
  pub size : length flags ≡ 256
  pub out : (k : ℕ) → k < 256 → slice_index_or flags k false ≡ is_some (ticket_at ws k)
