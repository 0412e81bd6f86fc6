use Rattle.std.proofs.Common.{rules, not}
use Rattle.std.proofs.lemmas.Fn.{filter_same}
use Rattle.std.proofs.lemmas.List.Elements.{All-filter}
use Rattle.qs_group.specs.Queue.{InRange, has_ticket}
use Rattle.qs_group.proofs.queue.remove.Goals as goal

pub returns-clause-items : goal.returns-clause-items
returns-clause-items c = filter_same _ (λ w. not (has_ticket c.args.ticket w)) _ (λ x b f' k. search rules) _ _ c.retain.ensures.filtered

pub returns-clause-in_range : goal.returns-clause-in_range
returns-clause-in_range c all =
    rw (filter_same _ (λ w. not (has_ticket c.args.ticket w)) _ (λ x b f' k. search rules) _ _ c.retain.ensures.filtered)
    (All-filter (λ w. not (has_ticket c.args.ticket w)) InRange c.args.waiting.now.items all)
