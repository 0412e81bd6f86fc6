use Rattle.std.proofs.Common.{arith}
use Rattle.serde_json.specs.View.{view}
use Rattle.qs_qmp_write.proofs.Lists.{exports_listed}
use Rattle.qs_qmp_write.proofs.write.exports.Goals as goal

pub returns : goal.returns
returns c =
    let h = c.loop-row-test.false in
    exports_listed (view c.listed.result) c.loop-row.list.items c.args.rows.now c.loop-row.row-index c.listed.ensures c.loop-row.invariant (omega (arith, h))
