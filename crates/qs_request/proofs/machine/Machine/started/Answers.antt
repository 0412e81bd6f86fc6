use Rattle.std.proofs.Common.{sym, ◌∙◌}
use Rattle.qs_part.specs.declared.stripe.Side.TheVariants.{Head}
use Rattle.qs_request.proofs.Reached.{at_edge}
use Rattle.qs_request.proofs.Loads.{read_kind, started_read}
use Rattle.qs_request.proofs.machine.Machine.started.Goals as goal

pub returns-then-is_read-clause-step : goal.returns-then-is_read-clause-step
returns-then-is_read-clause-step c =
    started_read c.args.self.now c.edge.result c.requires.shape c.edge.ensures (sym c.is_read.ensures ∙ c.if-is_read.true)

pub returns-then-is_read-clause-goes : goal.returns-then-is_read-clause-goes
returns-then-is_read-clause-goes c = record {
  reading = read_kind c.args.self.now.ask.kind (sym c.is_read.ensures ∙ c.if-is_read.true);
  reached = at_edge c.args.self.now Head c.edge.result c.requires.shape c.requires.going c.edge.ensures;
}
