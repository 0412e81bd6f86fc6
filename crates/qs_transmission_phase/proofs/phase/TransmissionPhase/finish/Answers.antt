-- The session waits, or goes on.
use Rattle.std.proofs.Common.{inr, refl}
use Rattle.qs_serving.proofs.Running.{serves_none}
use Rattle.qs_transmission_phase.proofs.Reading.{some_none}
use Rattle.qs_transmission_phase.proofs.Turning.{settles_wait}
use Rattle.qs_transmission_phase.proofs.phase.TransmissionPhase.finish.Goals as goal

pub returns-then-is_dry-clause-settles : goal.returns-then-is_dry-clause-settles
returns-then-is_dry-clause-settles g c =
    settles_wait c.args.starved c.args.wait c.pending.result c.awaited.result _ _ (serves_none _) refl c.awaited.ensures c.pending.ensures
    (inr (c.requires.settled, c.is_dry.ensures c.if-is_dry.true))

pub returns-clause-settles : goal.returns-clause-settles
returns-clause-settles g c = some_none _
