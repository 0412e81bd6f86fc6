use Rattle.std.proofs.lemmas.Bool.Decides.{same_from_decides}
use Rattle.qs_qmp_arguments.specs.Kinds.{is_id}
use Rattle.qs_qmp_arguments.proofs.Deciding.{id_decides}
use Rattle.qs_qmp_arguments.proofs.kinds.is_id.Goals as goal

pub returns : goal.returns
returns c = same_from_decides c.is_id.result (is_id c.args.name.now) c.is_id.ensures (id_decides c.args.name.now)
