-- The padded bytes are those that a name is stored by.
use Rattle.std.proofs.Common.{arith}
use Rattle.qs_bytes.proofs.Naming.{is_stored}
use Rattle.qs_bytes.proofs.name.Name.of.Goals as goal

pub invariant_of-result : goal.invariant_of-result
invariant_of-result c = rw c.padded.ensures (is_stored c.args.bytes.now (omega arith) c.in-Ok.ensures.cases.1)
