use Rattle.qs_shared.proofs.NewTurns.{groups_more}
use Rattle.qs_shared.proofs.opening.open_groups.Goals as goal

pub loop-preserved : goal.loop-preserved
loop-preserved c =
    groups_more c.loop.counter _ _ c.in_ok-group.group _ _ c.loop.invariant c.in_ok-group.ensures c.in_ok-open_next.ensures.opened c.open_next.ensures.turns c.open_next.ensures.alone
