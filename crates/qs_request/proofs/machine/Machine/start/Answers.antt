use Rattle.std.proofs.Common.{arith}
use Rattle.qs_request.proofs.Reached.{placed}
use Rattle.qs_request.proofs.machine.Machine.start.Goals as goal

pub overflow_mul-result : goal.overflow_mul-result
overflow_mul-result c = rw c.from.ensures (omega (arith, (placed c.args.self.now c.args.b c.requires.shape c.requires.reached).small))

pub returns-clause-placed : goal.returns-clause-placed
returns-clause-placed c = rw c.from.ensures (placed c.args.self.now c.args.b c.requires.shape c.requires.reached)
