use Rattle.std.proofs.Common.{◌≡◌, map, take}
use Rattle.serde_json.specs.View.{view}
use Rattle.qs_qmp_write.specs.Texts.{export_data}
use Rattle.qs_qmp_write.proofs.write.exports.Given as goal

abbrev pub invariant-loop-row : goal.invariant-loop-row
invariant-loop-row l = map view l.list.items ≡ map export_data (take l.row-index l.fn.rows)
