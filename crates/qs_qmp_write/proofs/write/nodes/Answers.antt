use Rattle.std.proofs.Common.{arith}
use Rattle.serde_json.specs.View.{view}
use Rattle.qs_qmp_write.proofs.Lists.{nodes_listed}
use Rattle.qs_qmp_write.proofs.write.nodes.Goals as goal

pub returns : goal.returns
returns c =
    let h = c.loop-row-test.false in
    nodes_listed (view c.listed.result) c.loop-row.list.items c.args.rows.now c.loop-row.row-index c.listed.ensures c.loop-row.invariant (omega (arith, h))
