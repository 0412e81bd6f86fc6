use Rattle.qs_qmp_arguments.proofs.Deciding.{unparsed}
use Rattle.qs_qmp_arguments.proofs.kinds.value_of.Goals as goal

pub returns-in-Err : goal.returns-in-Err
returns-in-Err c = unparsed c.in-Err.field-0 c.args.digits.now c.requires.some c.requires.digits c.in-Err.ensures.value.0
