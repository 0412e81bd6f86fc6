-- Who is served.
use Rattle.std.specs.Prelude.{◌≡◌, ℕ, Some}
use Rattle.qs_part.specs.declared.group.Dir.{Dir}
use Rattle.qs_part.specs.declared.group.GroupOp.TheVariants.{Admit}
use Rattle.qs_part.specs.declared.group.GroupReply.{GroupReply}
use Rattle.qs_part.specs.declared.group.GroupReply.TheVariants.{Ticket, Withdrawn, Go, Wait, Set as IsSet}
use Rattle.qs_group.specs.declared.queue.Queued.{Queued}
use Rattle.qs_group.specs.Queue.{ticket_at}
use Rattle.qs_group.specs.Table.{GroupValue, May}

-- the answers that change a group
abbrev pub ChangesGroup : GroupReply → Type 0
ChangesGroup (Ticket t) = Unit {0}
ChangesGroup Go = Unit {0}
ChangesGroup Withdrawn = Unit {0}
ChangesGroup IsSet = Unit {0}
ChangesGroup _ = ⊥

-- a request that goes, or waits for the limits alone, is served
abbrev pub ServesTicket : GroupReply → Type 0
ServesTicket Go = Unit {0}
ServesTicket (Wait ns) = Unit {0}
ServesTicket _ = ⊥

-- a request of a direction waits with a ticket
pub record WaitsIn (v : GroupValue) (d : Dir) (t : ℕ) : Type 0 where
  pub w : Queued
  pub found : ticket_at v.waiting t ≡ Some w
  pub dir : w.dir ≡ d

-- one ticket of a direction is served at every reading, and no other ticket of it is
pub record OneServed (v : GroupValue) (d : Dir) : Type 0 where
  pub ticket : ℕ
  pub waits : WaitsIn v d ticket
  pub served : (now : ℕ) → (reply : GroupReply) × ServesTicket reply × May v (Admit ticket now) reply
  pub only : (t now : ℕ) (reply : GroupReply) → WaitsIn v d t → May v (Admit t now) reply → ServesTicket reply →
      t ≡ ticket
