use Rattle.std.proofs.Common.{sym}
use Rattle.qs_qmp_arguments.proofs.Lists.{more_items}
use Rattle.qs_qmp_arguments.proofs.kinds.only_item.Goals as goal

pub returns-in-len2-up : goal.returns-in-len2-up
returns-in-len2-up c = sym (more_items c.args.items.now c.in-len2-up.len_at_least)
