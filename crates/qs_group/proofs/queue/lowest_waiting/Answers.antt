use Rattle.std.proofs.Common.{sym, ◌∙◌}
use Rattle.qs_group.proofs.Tickets.{out_is, none_out}
use Rattle.qs_group.proofs.queue.lowest_waiting.Goals as goal

pub returns-in_err-ticket : goal.returns-in_err-ticket
returns-in_err-ticket c =
    rw c.from_residual.ensures (none_out c.taken.result c.args.waiting.now c.requires c.taken.ensures (sym c.first_out.ensures ∙ c.in_err-ticket.was))

pub returns : goal.returns
returns c = out_is c.taken.result c.args.waiting.now c.in_ok-ticket.ticket c.taken.ensures (sym c.first_out.ensures ∙ c.in_ok-ticket.was)
