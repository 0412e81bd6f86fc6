use Rattle.std.proofs.Common.{sym}
use Rattle.qs_qmp_arguments.proofs.Lists.{some_items}
use Rattle.qs_qmp_arguments.proofs.kinds.has_no_item.Goals as goal

pub returns-in-len1-up : goal.returns-in-len1-up
returns-in-len1-up c = sym (some_items c.args.items.now c.in-len1-up.len_at_least)
