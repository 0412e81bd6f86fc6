use Rattle.std.proofs.Common.{◌≡◌, ◌-◌}
use Rattle.qs_model.specs.Requests.{to_sync}
use Rattle.qs_request.specs.Inside.{client_of}
use Rattle.qs_request.proofs.machine.Machine.next_sync.Given as goal

-- no stripe before this one is next
abbrev pub invariant-loop-s : goal.invariant-loop-s
invariant-loop-s l = to_sync l.self.shape.align (client_of l.self) (8 - l.fn.from) ≡ to_sync l.self.shape.align (client_of l.self) (8 - l.s)
