use Rattle.qs_nbd_transmission.specs.Phases.{CanFeed}
use Rattle.qs_nbd_transmission.proofs.tests.hear.Given as goal

abbrev pub invariant-loop : goal.invariant-loop
invariant-loop l = CanFeed l.link.phase
