use Rattle.std.proofs.Common.{arith, ap, ◌∙◌, List, ℕ, length}
use Rattle.qs_request.proofs.Reached.{at_edge, fits_block}
use Rattle.qs_request.proofs.machine.Machine.hold.Goals as goal

pub returns-clause-fits : goal.returns-clause-fits
returns-clause-fits c = (
  fits_block c.args.self.now c.stripe_of.result c.edge-b.result c.requires.shape
      (at_edge c.args.self.now c.args.end c.edge-b.result c.requires.shape c.requires.going c.edge-b.ensures) c.stripe_of.ensures,
  omega arith,
  ap (λ (xs : List ℕ). length xs) c.lend-buf.ensures.work ∙ c.requires.work,
)
