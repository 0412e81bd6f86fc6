-- The sum was told in a line.
use Rattle.std.proofs.Common.{List, ap, ◌++◌, ◌∙◌}
use Rattle.qs_generate.specs.Sums.{totals_line}
use Rattle.qs_replay_generated.proofs.Telling.{told_so}
use Rattle.qs_replay_generated.specs.Generating.{totals}
use Rattle.qs_replay_generated.proofs.whole.tell_totals.Goals as goal

pub returns-in-Ok-put_totals-clause-tells : goal.returns-in-Ok-put_totals-clause-tells
returns-in-Ok-put_totals-clause-tells g c =
    told_so g.D.Disk.seen c.args.align c.args.blocks c.args.counts c.args.disks.now.items c.sum_of_disks.new.disks.items (g.O.Sink.sent c.args.output.now)
    (g.O.Sink.sent c.print_line.new.output) c.put_totals.new.out c.in-Ok-sum_of_disks.sum c.print_line.result c.in-Ok-sum_of_disks.ensures.ok
    (c.in-Ok-put_totals.ensures.ok ∙ ap (λ (l : List _). l ++ totals_line (totals c.args.counts c.in-Ok-sum_of_disks.sum)) (c.of-line.ensures ∙ c.new-2.ensures.items))
    c.print_line.ensures.prints
