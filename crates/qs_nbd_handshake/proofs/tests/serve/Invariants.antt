use Rattle.qs_nbd_handshake.specs.Phases.{CanFeed}
use Rattle.qs_nbd_handshake.proofs.tests.serve.Given as goal

abbrev pub invariant-loop : goal.invariant-loop
invariant-loop l = CanFeed l.shake.phase
