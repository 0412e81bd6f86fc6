use Rattle.std.proofs.Common.{arith}
use Rattle.qs_request.proofs.Reached.{at_edge, fits_block}
use Rattle.qs_request.proofs.machine.Machine.free.Goals as goal

pub returns-clause-fits : goal.returns-clause-fits
returns-clause-fits c = (
  fits_block c.args.self.now c.stripe_of.result c.edge-b.result c.requires.shape
      (at_edge c.args.self.now c.args.side c.edge-b.result c.requires.shape c.requires.going c.edge-b.ensures) c.stripe_of.ensures,
  omega arith,
)
