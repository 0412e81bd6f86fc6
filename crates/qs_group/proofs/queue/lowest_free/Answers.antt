use Rattle.std.proofs.Common.{arith, sym, ◌∙◌, ◌≤◌, length}
use Rattle.qs_group.proofs.Tickets.{free_is, none_free}
use Rattle.qs_group.proofs.queue.lowest_free.Goals as goal

pub unreachable-requires : goal.unreachable-requires
unreachable-requires c =
    let full : 256 ≤ length c.args.waiting.now =
    none_free c.taken.result c.args.waiting.now c.taken.ensures (sym c.first_free.ensures ∙ c.in-None.is) in
    omega arith

pub returns : goal.returns
returns c = free_is c.taken.result c.args.waiting.now c.in-Some.ticket c.taken.ensures (sym c.first_free.ensures ∙ c.in-Some.is)
