use Rattle.std.proofs.Common.{arith, ap, ◌∙◌, List, ℕ, length}
use Rattle.qs_request.proofs.Reached.{fits_block}
use Rattle.qs_request.proofs.machine.Machine.load.Goals as goal

pub returns-clause-fits : goal.returns-clause-fits
returns-clause-fits c = (
  fits_block c.args.self.now c.stripe_of.result c.args.b c.requires.shape c.requires.loading.reached c.stripe_of.ensures,
  omega arith,
  ap (λ (xs : List ℕ). length xs) c.lend-buf.ensures.work ∙ c.requires.work,
)
