-- One byte after the other is added.
use Rattle.std.proofs.Common.{arith}
use Rattle.qs_generate.proofs.Weights.{all_bytes, one_more_byte}
use Rattle.qs_generate.proofs.totals.add_weighted.Goals as goal

pub loop-i-preserved : goal.loop-i-preserved
loop-i-preserved c =
    one_more_byte c.loop-i.total c.from.result c.args.first c.loop-i.i c.args.bytes.now _ (omega arith) c.from.ensures c.loop-i.invariant

pub returns : goal.returns
returns c = all_bytes c.loop-i.total c.args.first c.loop-i.i c.args.bytes.now _ (omega arith) (omega arith) c.loop-i.invariant
