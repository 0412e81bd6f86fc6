use Rattle.qs_group.proofs.Lookups.{find_has, found_queues}
use Rattle.qs_group.specs.Queue.{InRange, has_ticket}
use Rattle.qs_group.proofs.queue.ticket_at.Goals as goal

pub returns-clause-queues : goal.returns-clause-queues
returns-clause-queues c = rw c.seek.ensures (found_queues (has_ticket c.args.ticket) c.args.waiting.now)

pub returns-clause-in_range : goal.returns-clause-in_range
returns-clause-in_range c all = rw c.seek.ensures (find_has InRange (has_ticket c.args.ticket) c.args.waiting.now all)
