use Rattle.qs_request.proofs.Reached.{some_bytes}
use Rattle.qs_request.proofs.Ends.{head_plan, tail_plan}
use Rattle.qs_request.specs.Inside.{client_of}
use Rattle.qs_request.proofs.machine.Machine.plan.Goals as goal

pub returns-clause-head : goal.returns-clause-head
returns-clause-head c =
    head_plan c.args.self.now.shape.align (client_of c.args.self.now) c.span.result c.plan.result.head c.span.ensures
    (some_bytes c.args.self.now.shape c.requires.shape) c.plan.ensures.head

pub returns-clause-tail : goal.returns-clause-tail
returns-clause-tail c =
    tail_plan c.args.self.now.shape.align (client_of c.args.self.now) c.span.result c.plan.result.tail c.span.ensures
    (some_bytes c.args.self.now.shape c.requires.shape) c.requires.going.some c.plan.ensures.tail
