use Rattle.std.proofs.Common.{sym, ◌∙◌}
use Rattle.qs_model.proofs.Geometry.{head_reached}
use Rattle.qs_request.proofs.Reached.{some_bytes}
use Rattle.qs_request.specs.Inside.{client_of}
use Rattle.qs_request.proofs.machine.Machine.syncs.Goals as goal

pub touches-requires-clause-order : goal.touches-requires-clause-order
touches-requires-clause-order c =
    rw (c.edge.ensures, c.edge-else-is_flush.ensures) (head_reached c.args.self.now.shape.align (client_of c.args.self.now)
    (some_bytes c.args.self.now.shape c.requires.shape) (c.requires.syncing.going (sym c.is_flush.ensures ∙ c.if-is_flush.false)).some)
