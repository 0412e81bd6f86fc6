use Rattle.std.proofs.Common.{arith, ap, ◌∙◌}
use Rattle.qs_request.specs.declared.machine.Machine.{Machine}
use Rattle.qs_request.proofs.Reached.{fits_block}
use Rattle.qs_request.proofs.machine.Machine.store.Goals as goal

pub returns-clause-fits : goal.returns-clause-fits
returns-clause-fits c = (
  fits_block c.args.self.now c.stripe_of.result c.args.b c.requires.shape c.requires.storing.reached c.stripe_of.ensures,
  omega arith,
  c.content-buf.ensures.whole ∙ ap (λ (m : Machine). m.shape.align) c.lend-work.ensures.same,
)
