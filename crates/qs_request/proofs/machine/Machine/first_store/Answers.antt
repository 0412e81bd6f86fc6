use Rattle.qs_part.specs.declared.stripe.Side.TheVariants.{Head}
use Rattle.qs_request.proofs.Reached.{at_edge}
use Rattle.qs_request.proofs.machine.Machine.first_store.Goals as goal

pub returns-clause-goes : goal.returns-clause-goes
returns-clause-goes c = record {
  writing = c.requires.writing;
  reached = at_edge c.args.self.now Head c.edge.result c.requires.shape c.requires.going c.edge.ensures;
  kept = c.requires.kept;
}
